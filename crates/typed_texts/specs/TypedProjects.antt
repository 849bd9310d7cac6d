-- The typed program of a project without faults.
use Rattle.std.specs.Prelude.{ℕ, ◌+◌, if◌then◌else◌, List, [], ◌∷◌, ◌++◌, map, filter_map, Option, Some, None}
use Rattle.slang_values.specs.Value.{ValueType, Records}
use Rattle.slang_tree.specs.declared.place.Place.{Place}
use Rattle.slang_tree.specs.DeclTree.{TypedName, GlobalDeclTree, ReturnTree, MethodDeclTree, DeclTree, import_decl, global_decl, record_decl, method_decl}
use Rattle.slang_tree.specs.StmtTree.{stmts_of}
use Rattle.program_trees.specs.Programs.{CodeTree, give, CodeTrees, no_code, code_then, MethodTree, GlobalTree, ProgramTree}
use Rattle.program_trees.specs.Variables.{Variable, global}
use Rattle.type_rules.specs.Faults.{precedes}
use Rattle.type_rules.specs.Meanings.{Meaning, variable, Declared, Scope, meaning_of}
use Rattle.type_rules.specs.Judged.{Judged, known_type}
use Rattle.type_rules.specs.Expressions.{in_claim, in_ensures}
use Rattle.type_rules.specs.Constants.{judged_const}
use Rattle.type_rules.specs.Statements.{declared_type, behind_all}
use Rattle.type_rules.specs.Projects.{FileTree, in_order, declarations, global_of, record_of, param_types, result_type, record_fields, outline_names, outline_of, scope_of, contract_scope, body_scope}
use Rattle.typed_texts.specs.Numbered.{Numbered, plain, headed, joined, numbered_map, pair, placed}
use Rattle.typed_texts.specs.Values.{value_of_tree, constant_of_tree}
use Rattle.typed_texts.specs.Code.{all_noted, code_of_trees, locals_of_trees, type_declared}

-- ---- methods

-- a return behind code
abbrev pub with_return : CodeTrees Variable → Option (CodeTree Variable) → CodeTrees Variable
with_return no_code None = no_code
with_return no_code (Some code) = code_then code no_code
with_return (code_then first codes) returned = code_then first (with_return codes returned)

abbrev pub return_of : Scope → Option ReturnTree → Numbered Place (Option (CodeTree Variable))
return_of scope None = plain None
return_of scope (Some returned) = headed returned.place (λ node v. Some (give node v)) (value_of_tree scope returned.value)

abbrev pub types_declared : List Judged → List ValueType
types_declared parts = map known_type parts

-- the number of a global by its name
abbrev pub global_meant : Option Meaning → ℕ
global_meant (Some (variable (global n) is_var type)) = n
global_meant other = 0

-- The nodes of a method are its name, its claims, and those of its statements and its return, in the order of the text.
abbrev pub method_of_tree : List Declared → Scope → MethodDeclTree → Numbered Place (MethodTree Variable)
method_of_tree names scope decl =
    headed decl.written.place (λ node parts. record {
      name = decl.written.text;
      node = node;
      params = types_declared (param_types names decl.params);
      result = known_type (result_type names decl);
      requires_ = parts.0;
      modifies = map (λ written. global_meant (meaning_of scope written.text)) decl.modifies;
      ensures_ = parts.1.0;
      locals = types_declared (param_types names decl.params) ++ locals_of_trees (body_scope names scope decl) (stmts_of decl.body);
      body = with_return parts.1.1.0 parts.1.1.1;
    })
    (joined pair (all_noted (contract_scope names scope decl) in_claim decl.requires_)
    (joined pair (all_noted (contract_scope names scope decl) (in_ensures (result_type names decl).type) decl.ensures_)
    (joined pair (code_of_trees (body_scope names scope decl) (stmts_of decl.body))
    (return_of (behind_all (body_scope names scope decl) (stmts_of decl.body)) decl.returned))))

-- ---- globals

abbrev pub global_of_tree : Scope → GlobalDeclTree → Numbered Place (GlobalTree Variable)
global_of_tree outline decl =
    numbered_map
    (λ init. record { fixed = decl.fixed; type = type_declared (declared_type outline decl.ty (judged_const outline decl.init)); initial = init })
    (constant_of_tree outline decl.init)

-- ---- declarations

-- the globals and the methods of declarations, each in the order of the text
pub record Members : Type 0 where
  pub globals : List (GlobalTree Variable)
  pub methods : List (MethodTree Variable)

abbrev pub no_members : Members
no_members = record { globals = []; methods = [] }

abbrev pub with_global : GlobalTree Variable → Members → Members
with_global first others = record { globals = first ∷ others.globals; methods = others.methods }

abbrev pub with_method : MethodTree Variable → Members → Members
with_method first others = record { globals = others.globals; methods = first ∷ others.methods }

abbrev pub members_behind : Members → Members → Members
members_behind first second = record { globals = first.globals ++ second.globals; methods = first.methods ++ second.methods }

-- The members of a project of declarations, among them these.
abbrev pub members_of : List DeclTree → List DeclTree → Numbered Place Members
members_of decls [] = plain no_members
members_of decls (import_decl place path ∷ others) = members_of decls others
members_of decls (global_decl decl ∷ others) = joined with_global (global_of_tree (outline_of decls) decl) (members_of decls others)
members_of decls (record_decl decl ∷ others) = members_of decls others
members_of decls (method_decl decl ∷ others) =
    joined with_method (method_of_tree (outline_names decls) (scope_of decls) decl) (members_of decls others)

-- ---- projects

-- where a node stands: in the file of that number
pub record NodeAt : Type 0 where
  pub file : ℕ
  pub place : Place

abbrev pub in_file : ℕ → Place → NodeAt
in_file file place = record { file = file; place = place }

-- of the files from that number on
abbrev pub members_from : List DeclTree → ℕ → List FileTree → Numbered NodeAt Members
members_from decls number [] = plain no_members
members_from decls number (file ∷ files) =
    joined members_behind (placed (in_file number) (members_of decls file.decls)) (members_from decls (number + 1) files)

abbrev pub with_sorted : MethodTree Variable → List (MethodTree Variable) → List (MethodTree Variable)
with_sorted method [] = method ∷ []
with_sorted method (next ∷ methods) = if precedes next.name method.name then next ∷ with_sorted method methods else method ∷ next ∷ methods

-- the methods in the order of their names' bytes
abbrev pub sorted : List (MethodTree Variable) → List (MethodTree Variable)
sorted [] = []
sorted (method ∷ methods) = with_sorted method (sorted methods)

abbrev pub records_of : List DeclTree → Records
records_of decls = map (λ fields. map (λ f. type_declared f.type) fields) (record_fields decls)

-- names beside the types of the program: a record and its fields, the globals, and the parameters of a method
pub record NamedFields : Type 0 where
  pub name : List ℕ
  pub fields : List (List ℕ)

pub record TypedProject : Type 0 where
  -- the files in the order of their names
  pub files : List (List ℕ)
  pub record_names : List NamedFields
  pub global_names : List (List ℕ)
  pub program : ProgramTree Variable
  pub nodes : List NodeAt

abbrev pub typed_names : List TypedName → List (List ℕ)
typed_names names = map (λ name. name.written.text) names

abbrev pub program_with : List DeclTree → Members → ProgramTree Variable
program_with decls members = record { records = records_of decls; globals = members.globals; methods = sorted members.methods }

-- The nodes are numbered from 0 on, file by file and declaration by declaration.
abbrev pub typed_project : List FileTree → TypedProject
typed_project files = record {
  files = map (λ file. file.name) (in_order files);
  record_names = map (λ decl. record { name = decl.written.text; fields = typed_names decl.fields }) (filter_map record_of (declarations files));
  global_names = map (λ decl. decl.written.text) (filter_map global_of (declarations files));
  program = program_with (declarations files) ((members_from (declarations files) 0 (in_order files)).from 0);
  nodes = (members_from (declarations files) 0 (in_order files)).places;
}
