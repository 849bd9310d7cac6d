-- The statements of a text as code of the program, with their nodes, in a scope in which they have no fault.
use Rattle.std.specs.Prelude.{ℕ, List, [], ◌∷◌, ◌++◌, map, Option, Some, None}
use Rattle.std.specs.Option.{unwrap_or}
use Rattle.slang_values.specs.Value.{ValueType, unit_type}
use Rattle.slang_tree.specs.declared.place.Place.{Place}
use Rattle.slang_tree.specs.declared.expression.Name.{Name}
use Rattle.slang_tree.specs.ExprTree.{ExprTree, ExprTrees, place_of}
use Rattle.slang_tree.specs.ExprTree as e
use Rattle.slang_tree.specs.StmtTree.{StmtTree, StmtTrees, ElseTree}
use Rattle.slang_tree.specs.StmtTree as s
use Rattle.program_trees.specs.Claims.{NotedTree}
use Rattle.program_trees.specs.Programs.{TypedExpr, CodeTree, set, assert, deduce, branch, loop, call, CodeTrees, no_code, code_then}
use Rattle.program_trees.specs.Variables.{Variable, local}
use Rattle.type_rules.specs.Meanings.{Meaning, variable, method, Scope, meaning_of, within}
use Rattle.type_rules.specs.Expressions.{Context, in_claim, judged_right}
use Rattle.type_rules.specs.Statements.{declared_type, behind, past_locals, local_counts, texts}
use Rattle.typed_texts.specs.Numbered.{Numbered, plain, single, headed, joined, numbered_map, pair, listed}
use Rattle.typed_texts.specs.Claims.{claim_of_tree, steps_of_trees}
use Rattle.typed_texts.specs.Values.{Value, value_of_tree}

-- ---- claims

-- a claim with its one node
abbrev pub noted : Scope → Context → ExprTree → Numbered Place (NotedTree Variable)
noted scope context claim = single (place_of claim) (λ node. record { claim = claim_of_tree scope context claim; node = node })

abbrev pub all_noted : Scope → Context → List ExprTree → Numbered Place (List (NotedTree Variable))
all_noted scope context claims = listed (map (noted scope context) claims)

-- ---- calls

abbrev pub arguments_of : Scope → ExprTrees → Numbered Place (List (TypedExpr Variable))
arguments_of scope e.no_exprs = plain []
arguments_of scope (e.expr_then tree trees) = joined (λ a as'. a ∷ as') (value_of_tree scope tree) (arguments_of scope trees)

abbrev pub method_meant : Option Meaning → ℕ
method_meant (Some (method number signature modifies)) = number
method_meant other = 0

-- The statement has a node, and behind it the called name.
abbrev pub call_of : Scope → Place → Option Variable → Place → Option Meaning → ExprTrees → Numbered Place (CodeTree Variable)
call_of scope place target name_place meaning arguments =
    headed place (λ node parts. call node target parts.0 (method_meant meaning) parts.1)
    (joined pair (single name_place (λ node. node)) (arguments_of scope arguments))

-- A variable gets a value.
abbrev pub set_to : Place → Variable → Value → Numbered Place (CodeTree Variable)
set_to place target value = headed place (λ node v. set node target v) value

-- the same where the head of an application may be the name of a method
abbrev pub applied_to : Scope → Place → Variable → Place → Option Meaning → ExprTrees → Value → Numbered Place (CodeTree Variable)
applied_to scope place target name_place (Some (method number signature modifies)) arguments value =
    call_of scope place (Some target) name_place (Some (method number signature modifies)) arguments
applied_to scope place target name_place other arguments value = set_to place target value

-- A variable gets the value of a right side.
abbrev pub assigned : Scope → Place → Variable → ExprTree → Numbered Place (CodeTree Variable)
assigned scope place target (e.application at (e.name text name_place) arguments) =
    applied_to scope place target name_place (meaning_of scope text) arguments
    (value_of_tree scope (e.application at (e.name text name_place) arguments))
assigned scope place target other = set_to place target (value_of_tree scope other)

abbrev pub variable_meant : Option Meaning → Variable
variable_meant (Some (variable x is_var type)) = x
variable_meant other = local 0

-- the variables of these names
abbrev pub variables_meant : Scope → List Name → List Variable
variables_meant scope names = map (λ written. variable_meant (meaning_of scope written.text)) names

-- ---- statements

abbrev mutual
  pub code_of_tree : Scope → StmtTree → Numbered Place (CodeTree Variable)
  code_of_tree scope (s.val place written ty value) = assigned scope place (local scope.locals) value
  code_of_tree scope (s.var place written ty value) = assigned scope place (local scope.locals) value
  code_of_tree scope (s.assignment written value) = assigned scope written.place (variable_meant (meaning_of scope written.text)) value
  code_of_tree scope (s.call written arguments) = call_of scope written.place None written.place (meaning_of scope written.text) arguments
  code_of_tree scope (s.branch place test on_true otherwise) =
      headed place (λ node parts. branch node parts.0 parts.1.0 parts.1.1)
      (joined pair (value_of_tree scope test)
      (joined pair (code_of_trees scope on_true) (code_of_else (past_locals scope (local_counts on_true)) otherwise)))
  code_of_tree scope (s.loop place test modifies claims body) =
      headed place (λ node parts. loop node parts.0 (variables_meant scope modifies) parts.1.0 parts.1.1)
      (joined pair (value_of_tree scope test)
      (joined pair (all_noted scope in_claim claims) (code_of_trees (within scope (texts modifies)) body)))
  code_of_tree scope (s.assertion place claim) = numbered_map assert (noted scope in_claim claim)
  code_of_tree scope (s.deduction place steps) = single place (λ node. deduce node (steps_of_trees scope steps))

  pub code_of_trees : Scope → StmtTrees → Numbered Place (CodeTrees Variable)
  code_of_trees scope s.no_stmts = plain no_code
  code_of_trees scope (s.stmt_then stmt stmts) = joined code_then (code_of_tree scope stmt) (code_of_trees (behind scope stmt) stmts)

  pub code_of_else : Scope → ElseTree → Numbered Place (CodeTrees Variable)
  code_of_else scope s.no_else = plain no_code
  code_of_else scope (s.else_then stmts) = code_of_trees scope stmts

-- ---- locals

-- the type of what is declared with a value
abbrev pub type_declared : Option ValueType → ValueType
type_declared type = unwrap_or type unit_type

abbrev mutual
  -- the types of the locals of a statement, in the order of the text
  pub locals_of_tree : Scope → StmtTree → List ValueType
  locals_of_tree scope (s.val place written ty value) = type_declared (declared_type scope ty (judged_right scope value)) ∷ []
  locals_of_tree scope (s.var place written ty value) = type_declared (declared_type scope ty (judged_right scope value)) ∷ []
  locals_of_tree scope (s.branch place test on_true otherwise) =
      locals_of_trees scope on_true ++ locals_of_else (past_locals scope (local_counts on_true)) otherwise
  locals_of_tree scope (s.loop place test modifies claims body) = locals_of_trees (within scope (texts modifies)) body
  locals_of_tree scope (s.assignment written value) = []
  locals_of_tree scope (s.call written arguments) = []
  locals_of_tree scope (s.assertion place claim) = []
  locals_of_tree scope (s.deduction place steps) = []

  pub locals_of_trees : Scope → StmtTrees → List ValueType
  locals_of_trees scope s.no_stmts = []
  locals_of_trees scope (s.stmt_then stmt stmts) = locals_of_tree scope stmt ++ locals_of_trees (behind scope stmt) stmts

  pub locals_of_else : Scope → ElseTree → List ValueType
  locals_of_else scope s.no_else = []
  locals_of_else scope (s.else_then stmts) = locals_of_trees scope stmts
