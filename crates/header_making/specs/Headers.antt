-- The header of a method of the typed program.
use Rattle.std.specs.Prelude.{◌≡◌, ℕ, List, length, map}
use Rattle.std.specs.Option.{option_map_or}
use Rattle.std.specs.List.{slice_get}
use Rattle.slang_values.specs.Value.{ValueType, unit_type}
use Rattle.slang_tree.specs.DeclTree.{MethodDeclTree, TypedName}
use Rattle.lk_claims.specs.Claim.{value_type}
use Rattle.lk_programs.specs.declared.program.FieldTy.{FieldTy}
use Rattle.lk_programs.specs.Program.{field_types}
use Rattle.type_rules.specs.Judged.{Judged, known_type}
use Rattle.type_rules.specs.Meanings.{Declared}
use Rattle.type_rules.specs.Projects.{param_types, result_type}
use Rattle.typed_texts.specs.TypedProjects.{typed_names, types_declared}
use Rattle.text_types.specs.declared.found.Found.{Found}
use Rattle.text_types.specs.Found.{bare, seen}
use Rattle.typed_names.specs.Fields.{names_of}
use Rattle.header_making.specs.declared.headers.Header.{Header}

-- the type of the part at a place
abbrev pub known_at : List Found → ℕ → ValueType
known_at founds at = option_map_or (λ (found : Found). known_type (seen found)) (slice_get founds at) unit_type

-- They have these names, and the types of these parts.
pub record HasParams (made : List FieldTy) (params : List TypedName) (parts : List Judged) : Type 0 where
  pub names : names_of made ≡ typed_names params
  pub types : field_types made ≡ types_declared parts

-- It is a header of these parameters, the types of which were found, and of that of the result.
pub record IsHeaderOf (header : Header) (typed : List TypedName) (founds : List Found) (found : Found) : Type 0 where
  pub params : (parts : List Judged) → map seen founds ≡ map bare parts → length parts ≡ length typed → HasParams header.params typed parts
  pub ty : value_type header.result ≡ known_type (seen found)

-- It is the header of the method, where these names are known.
pub record IsHeader (header : Header) (names : List Declared) (decl : MethodDeclTree) : Type 0 where
  pub params : HasParams header.params decl.params (param_types names decl.params)
  pub ty : value_type header.result ≡ known_type (result_type names decl)
