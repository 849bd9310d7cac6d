-- The types of fields as they are written.
use Rattle.std.specs.Prelude.{List, map, filter_map, Option}
use Rattle.slang_values.specs.Value.{ValueType}
use Rattle.slang_tree.specs.DeclTree.{TypedName, RecordDeclTree, DeclTree}
use Rattle.type_rules.specs.Meanings.{Declared}
use Rattle.type_rules.specs.TypeNames.{judged_type}
use Rattle.type_rules.specs.Records.{FieldTypes}
use Rattle.type_rules.specs.Projects.{record_of}

abbrev pub types_written : List Declared → List TypedName → List (Option ValueType)
types_written names fields = map (λ field. (judged_type names field.ty).type) fields

-- those of each record, where these names are known
abbrev pub written_with : List Declared → List DeclTree → FieldTypes
written_with names decls = map (λ (decl : RecordDeclTree). types_written names decl.fields) (filter_map record_of decls)
