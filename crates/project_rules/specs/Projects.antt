-- Which projects are well typed. Nothing here speaks of faults.
use Rattle.std.specs.Prelude.{◌≡◌, ◌↔◌, ℕ, ◌+◌, ◌≤◌, true, false, List, [], ◌∷◌, ◌++◌, map, length, filter_map, ⊤, Option, Some, None}
use Rattle.std.specs.List.{AllByRecursion, IsDistinct}
use Rattle.std.specs.Str.{bytes_eq}
use Rattle.slang_values.specs.Value.{ValueType, unit_type}
use Rattle.slang_tree.specs.declared.expression.Name.{Name}
use Rattle.slang_tree.specs.TypeTree.{TypeTree, unit_name}
use Rattle.slang_tree.specs.StmtTree.{stmts_of}
use Rattle.slang_tree.specs.DeclTree.{TypedName, GlobalDeclTree, RecordDeclTree, ReturnTree, MethodDeclTree, DeclTree, import_decl, global_decl, record_decl, method_decl}
use Rattle.program_trees.specs.Variables.{global}
use Rattle.type_rules.specs.Meanings.{variable, Declared, declared, Scope, meaning_of, with_local}
use Rattle.type_rules.specs.Records.{FieldTypes, is_allowed}
use Rattle.type_rules.specs.Expressions.{in_program, in_claim, in_ensures}
use Rattle.type_rules.specs.Statements.{texts, behind_all}
use Rattle.type_rules.specs.Projects.{FileTree, declarations, name_of, method_of, names_with, outline_names, outline_of, scope_of, written_fields, contract_scope, body_scope, first_faults}
use Rattle.typing_rules.specs.Expressions.{IsType, HasType}
use Rattle.statement_rules.specs.Statements.{IsNotUnit, DeclaredAs, IsNew, AreClaims, AreTypedStmts}
use Rattle.project_rules.specs.Constants.{ConstHas}

-- ---- globals and records

-- a constant of the type that is written, or of any
abbrev pub IsTypedGlobal : Scope → GlobalDeclTree → Type 0
IsTypedGlobal outline decl = (t : ValueType) × DeclaredAs outline decl.ty t × ConstHas outline decl.init t

-- The fields of record n from the place k on: through none of them the record holds itself, and none brings its parts past 1,000.
abbrev pub AreTypedFields : List Declared → FieldTypes → (n k : ℕ) → List TypedName → Type 0
AreTypedFields names written n k [] = ⊤
AreTypedFields names written n k (field ∷ fields) =
    ((t : ValueType) × IsType names field.ty t × (is_allowed written n k (Some t) ≡ true)) × AreTypedFields names written n (k + 1) fields

abbrev pub IsTypedRecord : List DeclTree → ℕ → RecordDeclTree → Type 0
IsTypedRecord decls n decl =
    IsDistinct bytes_eq (map (λ field. field.written.text) decl.fields)
    × AreTypedFields (outline_names decls) (written_fields decls) n 0 decl.fields

-- ---- methods

-- New names, each with a type; a parameter is a known name in the types behind it.
abbrev pub AreTypedParams : List Declared → Scope → List TypedName → Type 0
AreTypedParams names scope [] = ⊤
AreTypedParams names scope (param ∷ params) =
    IsNew scope param.written
    × ((t : ValueType) × IsType names param.ty t
    × AreTypedParams (names ++ declared param.written.text (variable (global 0) false None) ∷ []) (with_local scope param.written.text false (Some t)) params)

abbrev pub IsResult : List Declared → TypeTree → ValueType → Type 0
IsResult names (unit_name place) t = t ≡ unit_type
IsResult names ty t = IsType names ty t

abbrev pub IsUnit : ValueType → Type 0
IsUnit unit_type = ⊤
IsUnit t = ⊥

-- A method of another type than `Unit` ends with a return of a value of that type, and one of `Unit` has none.
abbrev pub ReturnHas : Scope → ValueType → Option ReturnTree → Type 0
ReturnHas scope r None = IsUnit r
ReturnHas scope r (Some returned) = IsNotUnit r × HasType scope in_program returned.value r

abbrev pub IsGlobalVar : Scope → Name → Type 0
IsGlobalVar scope written = (n : ℕ) × (t : ValueType) × (meaning_of scope written.text ≡ Some (variable (global n) true (Some t)))

-- the names of `var`s among the globals, each named once
abbrev pub AreGlobalVars : Scope → List Name → Type 0
AreGlobalVars scope names = AllByRecursion (IsGlobalVar scope) names × IsDistinct bytes_eq (texts names)

pub record IsTypedMethod (names : List Declared) (scope : Scope) (decl : MethodDeclTree) : Type 0 where
  pub result_type : ValueType
  pub params : AreTypedParams names scope decl.params
  pub result : IsResult (names_with names decl.params) decl.result result_type
  pub requires_ : AreClaims (contract_scope names scope decl) in_claim decl.requires_
  pub modifies : AreGlobalVars (contract_scope names scope decl) decl.modifies
  pub ensures_ : AreClaims (contract_scope names scope decl) (in_ensures (Some result_type)) decl.ensures_
  pub body : AreTypedStmts (body_scope names scope decl) (stmts_of decl.body)
  pub returned : ReturnHas (behind_all (body_scope names scope decl) (stmts_of decl.body)) result_type decl.returned

-- ---- projects

-- the declarations from record n on
abbrev pub AreTypedDecls : List DeclTree → (n : ℕ) → List DeclTree → Type 0
AreTypedDecls decls n [] = ⊤
AreTypedDecls decls n (import_decl place path ∷ others) = AreTypedDecls decls n others
AreTypedDecls decls n (global_decl decl ∷ others) = IsTypedGlobal (outline_of decls) decl × AreTypedDecls decls n others
AreTypedDecls decls n (record_decl decl ∷ others) = IsTypedRecord decls n decl × AreTypedDecls decls (n + 1) others
AreTypedDecls decls n (method_decl decl ∷ others) = IsTypedMethod (outline_names decls) (scope_of decls) decl × AreTypedDecls decls n others

-- The declarations have one space of names, and a project has at most 10,000 methods.
pub record IsTypedProject (decls : List DeclTree) : Type 0 where
  pub names : IsDistinct bytes_eq (map (λ name. name.text) (filter_map name_of decls))
  pub count : length (filter_map method_of decls) ≤ 10000
  pub decls_typed : AreTypedDecls decls 0 decls

-- No file of a project has a fault exactly where the project is well typed.
abbrev pub NoFaultWhereTyped : Type 0
NoFaultWhereTyped = (files : List FileTree) → (first_faults files ≡ []) ↔ IsTypedProject (declarations files)
