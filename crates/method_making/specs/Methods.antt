-- A method of the typed program with numbers for its variables, part by part.
use Rattle.std.specs.Prelude.{ℕ, List, ◌++◌, map, Option, Some, None}
use Rattle.std.specs.Option.{option_map}
use Rattle.slang_values.specs.Value.{ValueType}
use Rattle.slang_tree.specs.declared.place.Place.{Place}
use Rattle.slang_tree.specs.ExprTree.{ExprTree}
use Rattle.slang_tree.specs.StmtTree.{stmts_of}
use Rattle.slang_tree.specs.DeclTree.{MethodDeclTree, ReturnTree}
use Rattle.program_trees.specs.Claims.{NotedTree, renamed_noted}
use Rattle.program_trees.specs.Programs.{CodeTree, CodeTrees, no_code, code_then, give, MethodTree, renamed_code, renamed_codes}
use Rattle.program_trees.specs.Variables.{Variable, numbered_method}
use Rattle.type_rules.specs.Meanings.{Declared, Scope}
use Rattle.type_rules.specs.Judged.{known_type}
use Rattle.type_rules.specs.Expressions.{Context, in_claim, in_ensures}
use Rattle.type_rules.specs.Statements.{behind_all}
use Rattle.type_rules.specs.Projects.{body_scope, contract_scope, param_types, result_type}
use Rattle.typed_texts.specs.Numbered.{Numbered, headed, joined, numbered_map, pair}
use Rattle.typed_texts.specs.Values.{value_of_tree}
use Rattle.typed_texts.specs.Code.{all_noted, code_of_trees, locals_of_trees}
use Rattle.typed_texts.specs.TypedProjects.{method_of_tree, return_of, types_declared}

-- the numbers of variables
abbrev pub Numbers : Type 0
Numbers = Variable → ℕ

abbrev pub noted_in : Numbers → Scope → Context → List ExprTree → Numbered Place (List (NotedTree ℕ))
noted_in f scope context claims = numbered_map (map (renamed_noted f)) (all_noted scope context claims)

-- a return with its value
abbrev pub give_in : Numbers → Scope → ReturnTree → Numbered Place (CodeTree ℕ)
give_in f scope returned = numbered_map (renamed_code f) (headed returned.place (λ node v. give node v) (value_of_tree scope returned.value))

abbrev pub return_in : Numbers → Scope → Option ReturnTree → Numbered Place (Option (CodeTree ℕ))
return_in f scope returned = numbered_map (option_map (renamed_code f)) (return_of scope returned)

-- a return behind code
abbrev pub with_code : CodeTrees ℕ → Option (CodeTree ℕ) → CodeTrees ℕ
with_code no_code None = no_code
with_code no_code (Some code) = code_then code no_code
with_code (code_then first codes) returned = code_then first (with_code codes returned)

-- the statements of a method and its return, in the scope of its body
abbrev pub body_in : Numbers → Scope → MethodDeclTree → Numbered Place (CodeTrees ℕ)
body_in f scope decl =
    joined with_code (numbered_map (renamed_codes f) (code_of_trees scope (stmts_of decl.body)))
    (return_in f (behind_all scope (stmts_of decl.body)) decl.returned)

-- a method without its name and what it modifies
pub record PartsTree : Type 0 where
  pub params : List ValueType
  pub result : ValueType
  pub requires_ : List (NotedTree ℕ)
  pub ensures_ : List (NotedTree ℕ)
  pub locals : List ValueType
  pub body : CodeTrees ℕ

abbrev pub locals_in : List Declared → Scope → MethodDeclTree → List ValueType
locals_in names scope decl = types_declared (param_types names decl.params) ++ locals_of_trees (body_scope names scope decl) (stmts_of decl.body)

abbrev pub parts_in : Numbers → List Declared → Scope → MethodDeclTree → Numbered Place PartsTree
parts_in f names scope decl =
    numbered_map
    (λ (parts : List (NotedTree ℕ) × (List (NotedTree ℕ) × CodeTrees ℕ)). record {
      params = types_declared (param_types names decl.params);
      result = known_type (result_type names decl);
      requires_ = parts.0;
      ensures_ = parts.1.0;
      locals = locals_in names scope decl;
      body = parts.1.1;
    })
    (joined pair (noted_in f (contract_scope names scope decl) in_claim decl.requires_)
    (joined pair (noted_in f (contract_scope names scope decl) (in_ensures (result_type names decl).type) decl.ensures_)
    (body_in f (body_scope names scope decl) decl)))

-- the method, of a program of so many globals
abbrev pub method_in : ℕ → List Declared → Scope → MethodDeclTree → Numbered Place (MethodTree ℕ)
method_in globals names scope decl = numbered_map (numbered_method globals) (method_of_tree names scope decl)
