-- Records of the typed program, as those of the text that they are made from.
use Rattle.std.specs.Prelude.{◌≡◌, ℕ, List, map, filter_map}
use Rattle.std.specs.Borrow.{Bor}
use Rattle.slang_values.specs.Value.{ValueType}
use Rattle.slang_tree.specs.declared.declaration.RecordDecl.{RecordDecl as CodeRecord}
use Rattle.slang_tree.specs.DeclTree.{DeclTree, RecordDeclTree, record_decl_tree}
use Rattle.lk_programs.specs.declared.program.FieldTy.{FieldTy}
use Rattle.lk_programs.specs.declared.program.RecordTy.{RecordTy}
use Rattle.lk_programs.specs.Program.{field_types, record_types}
use Rattle.type_rules.specs.Meanings.{Declared, Field}
use Rattle.type_rules.specs.Records.{FieldTypes}
use Rattle.type_rules.specs.Projects.{record_fields, record_of}
use Rattle.typed_texts.specs.Code.{type_declared}
use Rattle.typed_names.specs.Fields.{names_of}
use Rattle.record_judging.specs.Written.{types_written}

abbrev pub record_seen : Bor CodeRecord → RecordDeclTree
record_seen decl = record_decl_tree decl.now

-- the types of the fields of each record as they are written
abbrev pub written_of : List Declared → List RecordDeclTree → FieldTypes
written_of names records = map (λ (decl : RecordDeclTree). types_written names decl.fields) records

abbrev pub types_of : List Field → List ValueType
types_of fields = map (λ (f : Field). type_declared f.type) fields

abbrev pub texts_of : List Field → List (List ℕ)
texts_of fields = map (λ (f : Field). f.text) fields

-- They are these fields, by their names and with their types.
pub record HasFieldTypes (made : List FieldTy) (fields : List Field) : Type 0 where
  pub names : names_of made ≡ texts_of fields
  pub types : field_types made ≡ types_of fields

-- They are records of these names with these fields.
pub record AreRecords (made : List RecordTy) (decls : List RecordDeclTree) (fields : List (List Field)) : Type 0 where
  pub names : map (λ (r : RecordTy). r.name) made ≡ map (λ (decl : RecordDeclTree). decl.written.text) decls
  pub fields_are : map (λ (r : RecordTy). names_of r.fields) made ≡ map texts_of fields
  pub types : record_types made ≡ map types_of fields

-- They are the records of a project with these declarations.
abbrev pub AreRecordsOf : List RecordTy → List DeclTree → Type 0
AreRecordsOf made decls = AreRecords made (filter_map record_of decls) (record_fields decls)
