-- What is wrong with the declarations of a project, and the first fault of each of its files.
use Rattle.std.specs.Prelude.{ℕ, ◌+◌, ◌==◌, Bool, false, not, if◌then◌else◌, List, [], ◌∷◌, ◌++◌, map, length, filter_map, flat_map, count_by, Option, Some, None}
use Rattle.std.specs.Option.{option_map, is_some}
use Rattle.std.specs.Set.{is_member}
use Rattle.std.specs.Str.{bytes_eq}
use Rattle.slang_values.specs.Value.{ValueType, unit_type}
use Rattle.slang_tree.specs.declared.place.Fault.{Fault}
use Rattle.slang_tree.specs.declared.place.FileFault.{FileFault}
use Rattle.slang_tree.specs.declared.expression.Name.{Name}
use Rattle.slang_tree.specs.TypeTree.{type_place}
use Rattle.slang_tree.specs.DeclTree.{TypedName, GlobalDeclTree, RecordDeclTree, ReturnTree, MethodDeclTree, DeclTree, import_decl, global_decl, record_decl, method_decl}
use Rattle.slang_tree.specs.StmtTree.{stmts_of}
use Rattle.program_trees.specs.Variables.{global}
use Rattle.type_rules.specs.Faults.{duplicate_name, type_differs, too_many_methods, unless, precedes, first_fault}
use Rattle.type_rules.specs.Meanings.{Signature, variable, record_class, method, Declared, declared, Field, Scope, all_typed, with_local, is_global_var}
use Rattle.type_rules.specs.Judged.{Judged, faults_against_optional}
use Rattle.type_rules.specs.TypeNames.{judged_type, judged_result}
use Rattle.type_rules.specs.Expressions.{in_claim, in_ensures, in_program, judged}
use Rattle.type_rules.specs.Steps.{new_name_faults}
use Rattle.type_rules.specs.Statements.{declared_type, value_faults, modifies_faults, texts, claims_faults, stmts_faults, behind_all}
use Rattle.type_rules.specs.Constants.{judged_const}
use Rattle.type_rules.specs.Records.{FieldTypes, is_allowed, allowed_type}

-- ---- files

pub record FileTree : Type 0 where
  pub name : List ℕ
  pub decls : List DeclTree

abbrev pub with_file : FileTree → List FileTree → List FileTree
with_file file [] = file ∷ []
with_file file (next ∷ files) = if precedes next.name file.name then next ∷ with_file file files else file ∷ next ∷ files

-- the files in the order of their names' bytes
abbrev pub in_order : List FileTree → List FileTree
in_order [] = []
in_order (file ∷ files) = with_file file (in_order files)

-- the declarations of all files, in that order
abbrev pub declarations : List FileTree → List DeclTree
declarations files = flat_map (λ file. file.decls) (in_order files)

-- ---- declarations by their kinds

abbrev pub global_of : DeclTree → Option GlobalDeclTree
global_of (global_decl decl) = Some decl
global_of other = None

abbrev pub record_of : DeclTree → Option RecordDeclTree
record_of (record_decl decl) = Some decl
record_of other = None

abbrev pub method_of : DeclTree → Option MethodDeclTree
method_of (method_decl decl) = Some decl
method_of other = None

-- The name of a declaration. An import declares none.
abbrev pub name_of : DeclTree → Option Name
name_of (import_decl place path) = None
name_of (global_decl decl) = Some decl.written
name_of (record_decl decl) = Some decl.written
name_of (method_decl decl) = Some decl.written

-- ---- what the names of the declarations mean

-- the type of each parameter, which is a known name in the types behind it
abbrev pub param_types : List Declared → List TypedName → List Judged
param_types names [] = []
param_types names (param ∷ params) =
    judged_type names param.ty ∷ param_types (names ++ declared param.written.text (variable (global 0) false None) ∷ []) params

-- with all parameters as known names
abbrev pub names_with : List Declared → List TypedName → List Declared
names_with names params = names ++ map (λ param. declared param.written.text (variable (global 0) false None)) params

abbrev pub result_type : List Declared → MethodDeclTree → Judged
result_type names decl = judged_result (names_with names decl.params) decl.result

abbrev pub signature_with : Option (List ValueType) → Option ValueType → Option Signature
signature_with None result = None
signature_with (Some params) None = None
signature_with (Some params) (Some result) = Some (record { params = params; result = result })

abbrev pub signature_of : List Declared → MethodDeclTree → Option Signature
signature_of names decl = signature_with (all_typed (map (λ part. part.type) (param_types names decl.params))) (result_type names decl).type

-- The methods are numbered in the order of their names.
abbrev pub method_number : List DeclTree → List ℕ → ℕ
method_number decls text = count_by (λ decl. precedes decl.written.text text) (filter_map method_of decls)

-- what the name of a declaration means, behind so many globals and records
abbrev pub meaning_declared : Scope → List DeclTree → (globals records : ℕ) → DeclTree → List Declared
meaning_declared outline decls globals records (import_decl place path) = []
meaning_declared outline decls globals records (global_decl decl) =
    declared decl.written.text (variable (global globals) (not decl.fixed) (declared_type outline decl.ty (judged_const outline decl.init))) ∷ []
meaning_declared outline decls globals records (record_decl decl) = declared decl.written.text (record_class records) ∷ []
meaning_declared outline decls globals records (method_decl decl) =
    declared decl.written.text (method (method_number decls decl.written.text) (signature_of outline.names decl) (texts decl.modifies)) ∷ []

abbrev pub count_if : Bool → ℕ
count_if holds = if holds then 1 else 0

abbrev pub meanings_declared : Scope → List DeclTree → (globals records : ℕ) → List DeclTree → List Declared
meanings_declared outline decls globals records [] = []
meanings_declared outline decls globals records (decl ∷ others) =
    meaning_declared outline decls globals records decl
    ++ meanings_declared outline decls (globals + count_if (is_some (global_of decl))) (records + count_if (is_some (record_of decl))) others

abbrev pub nothing_covered : List ℕ → Bool
nothing_covered text = false

abbrev pub scope_over : List Declared → List (List Field) → Scope
scope_over names fields = record { names = names; fields = fields; covers = nothing_covered; locals = 0; depth = 0 }

-- what the names of a project mean as types: of each only whether it is a record's
abbrev pub outline_names : List DeclTree → List Declared
outline_names decls = meanings_declared (scope_over [] []) decls 0 0 decls

-- the types of the fields of each record as they are written
abbrev pub written_fields : List DeclTree → FieldTypes
written_fields decls =
    map (λ decl. map (λ field. (judged_type (outline_names decls) field.ty).type) decl.fields) (filter_map record_of decls)

-- the fields of record n from the place k on, with the types that they may have
abbrev pub fields_from : List Declared → FieldTypes → (n k : ℕ) → List TypedName → List Field
fields_from names written n k [] = []
fields_from names written n k (field ∷ fields) =
    record { text = field.written.text; type = allowed_type written n k (judged_type names field.ty).type }
    ∷ fields_from names written n (k + 1) fields

abbrev pub records_from : List Declared → FieldTypes → ℕ → List RecordDeclTree → List (List Field)
records_from names written n [] = []
records_from names written n (decl ∷ decls) = fields_from names written n 0 decl.fields ∷ records_from names written (n + 1) decls

abbrev pub record_fields : List DeclTree → List (List Field)
record_fields decls = records_from (outline_names decls) (written_fields decls) 0 (filter_map record_of decls)

-- in which the types and the constants of declarations are read
abbrev pub outline_of : List DeclTree → Scope
outline_of decls = scope_over (outline_names decls) (record_fields decls)

-- what is in scope everywhere
abbrev pub scope_of : List DeclTree → Scope
scope_of decls = scope_over (meanings_declared (outline_of decls) decls 0 0 decls) (record_fields decls)

-- ---- globals and records

abbrev pub global_faults : Scope → GlobalDeclTree → List Fault
global_faults outline decl = value_faults outline decl.ty (judged_const outline decl.init)

-- the fields of record n from the place k on; the names of fields that stand before
abbrev pub field_faults : List Declared → FieldTypes → (n k : ℕ) → (before : List (List ℕ)) → List TypedName → List Fault
field_faults names written n k before [] = []
field_faults names written n k before (field ∷ fields) =
    unless (not (is_member bytes_eq before field.written.text)) (duplicate_name field.written.place)
    ++ (judged_type names field.ty).faults
    ++ unless (is_allowed written n k (judged_type names field.ty).type) (type_differs (type_place field.ty))
    ++ field_faults names written n (k + 1) (field.written.text ∷ before) fields

-- ---- methods

-- a scope with the parameters, of which the types are these
abbrev pub with_params : Scope → List TypedName → List Judged → Scope
with_params scope [] types = scope
with_params scope (param ∷ params) [] = scope
with_params scope (param ∷ params) (type ∷ types) = with_params (with_local scope param.written.text false type.type) params types

abbrev pub params_faults : Scope → List TypedName → List Judged → List Fault
params_faults scope [] types = []
params_faults scope (param ∷ params) [] = []
params_faults scope (param ∷ params) (type ∷ types) =
    new_name_faults scope param.written ++ type.faults ++ params_faults (with_local scope param.written.text false type.type) params types

-- the scope of a method's contract
abbrev pub contract_scope : List Declared → Scope → MethodDeclTree → Scope
contract_scope names scope decl = with_params scope decl.params (param_types names decl.params)

-- and of its body, where the globals may be changed that it modifies
abbrev pub body_scope : List Declared → Scope → MethodDeclTree → Scope
body_scope names scope decl = record (contract_scope names scope decl) { covers = is_member bytes_eq (texts decl.modifies) }

-- A method of another type than `Unit` ends with a return of a value of that type, and one of `Unit` has none.
abbrev pub return_faults : Scope → Name → Bool → Option ValueType → Option ReturnTree → List Fault
return_faults scope written has_signature None None = []
return_faults scope written has_signature (Some unit_type) None = []
return_faults scope written has_signature (Some t) None = if has_signature then type_differs written.place ∷ [] else []
return_faults scope written has_signature (Some unit_type) (Some returned) = returned_by_unit (judged scope in_program returned.value)
  where
    returned_by_unit : Judged → List Fault
    returned_by_unit value = value.faults ++ (if is_some value.type then type_differs value.place ∷ [] else [])
return_faults scope written has_signature type (Some returned) = faults_against_optional type (judged scope in_program returned.value)

abbrev pub method_faults : List Declared → Scope → MethodDeclTree → List Fault
method_faults names scope decl =
    params_faults scope decl.params (param_types names decl.params)
    ++ (result_type names decl).faults
    ++ claims_faults (contract_scope names scope decl) in_claim decl.requires_
    ++ modifies_faults is_global_var (contract_scope names scope decl) [] decl.modifies
    ++ claims_faults (contract_scope names scope decl) (in_ensures (result_type names decl).type) decl.ensures_
    ++ stmts_faults (body_scope names scope decl) (stmts_of decl.body)
    ++ return_faults (behind_all (body_scope names scope decl) (stmts_of decl.body)) decl.written
    (is_some (signature_of names decl)) (result_type names decl).type decl.returned

-- ---- files

-- A declaration has a name that none before it has.
abbrev pub space_faults : List DeclTree → Option Name → List Fault
space_faults before None = []
space_faults before (Some written) =
    unless (not (is_member bytes_eq (map (λ name. name.text) (filter_map name_of before)) written.text)) (duplicate_name written.place)

-- what is wrong inside a declaration, behind so many records
abbrev pub inner_faults : List DeclTree → (records : ℕ) → DeclTree → List Fault
inner_faults decls records (import_decl place path) = []
inner_faults decls records (global_decl decl) = global_faults (outline_of decls) decl
inner_faults decls records (record_decl decl) = field_faults (outline_names decls) (written_fields decls) records 0 [] decl.fields
inner_faults decls records (method_decl decl) = method_faults (outline_names decls) (scope_of decls) decl

-- A method behind 10,000 others is one too many.
abbrev pub count_faults : List DeclTree → DeclTree → List Fault
count_faults before (method_decl decl) = unless (not (length (filter_map method_of before) == 10000)) (too_many_methods decl.written.place)
count_faults before other = []

abbrev pub decl_faults : List DeclTree → (before : List DeclTree) → DeclTree → List Fault
decl_faults decls before decl =
    space_faults before (name_of decl) ++ count_faults before decl ++ inner_faults decls (length (filter_map record_of before)) decl

-- the faults of declarations that stand behind others, in a project of these declarations
abbrev pub decls_faults : List DeclTree → (before : List DeclTree) → List DeclTree → List Fault
decls_faults decls before [] = []
decls_faults decls before (decl ∷ others) = decl_faults decls before decl ++ decls_faults decls (before ++ decl ∷ []) others

pub record FaultyFile : Type 0 where
  pub name : List ℕ
  pub faults : List Fault

abbrev pub files_faults : List DeclTree → (before : List DeclTree) → List FileTree → List FaultyFile
files_faults decls before [] = []
files_faults decls before (file ∷ files) =
    record { name = file.name; faults = decls_faults decls before file.decls } ∷ files_faults decls (before ++ file.decls) files

-- All faults of a project, file by file in the order of the files' names.
abbrev pub project_faults : List FileTree → List FaultyFile
project_faults files = files_faults (declarations files) [] (in_order files)

abbrev pub first_of_file : FaultyFile → Option FileFault
first_of_file file = option_map (λ found. record { file = file.name; fault = found }) (first_fault file.faults)

-- The first fault of each file that has one: that of least place, and of those the one of least code.
abbrev pub first_faults : List FileTree → List FileFault
first_faults files = filter_map first_of_file (project_faults files)
