-- What is known of the fields of a record.
use Rattle.std.specs.Prelude.{◌≡◌, ℕ, Bool, false, not, if◌then◌else◌, List, [], ◌∷◌, ◌++◌, map, find, get_or, Option, Some, None, slice_get}
use Rattle.std.specs.Option.{option_map}
use Rattle.std.specs.Set.{is_member}
use Rattle.std.specs.Str.{bytes_eq}
use Rattle.slang_values.specs.Value.{ValueType}
use Rattle.slang_tree.specs.declared.place.Fault.{Fault}
use Rattle.slang_tree.specs.TypeTree.{type_place}
use Rattle.slang_tree.specs.DeclTree.{TypedName}
use Rattle.name_maps.specs.Names.{is_named, named}
use Rattle.text_types.specs.declared.text_type.TextType.{TextType}
use Rattle.text_types.specs.TextType.{text_value}
use Rattle.name_scopes.specs.declared.scope.RecordFields.{RecordFields}
use Rattle.type_rules.specs.Faults.{duplicate_name, type_differs, unless}
use Rattle.type_rules.specs.Meanings.{Declared, Field, all_typed}
use Rattle.type_rules.specs.TypeNames.{judged_type}
use Rattle.type_rules.specs.Records.{FieldTypes, is_allowed}
use Rattle.type_rules.specs.Projects.{field_faults, fields_from}
use Rattle.type_faults.specs.FirstFault.{with_first}

-- the types of some fields, where all have types
abbrev pub typed_by : Bool → List TextType → Option (List TextType)
typed_by typed types = if typed then Some types else None

-- with the type of one field more
abbrev pub with_type : Option (List TextType) → Option TextType → Option (List TextType)
with_type None type = None
with_type (Some types) None = None
with_type (Some types) (Some type) = Some (types ++ type ∷ [])

-- the types of these fields by their names
abbrev pub ByName : List (List ℕ × Option TextType) → List Field → Type 0
ByName table fields = (text : List ℕ) → option_map (option_map text_value) (named table text) ≡ option_map (λ (f : Field). f.type) (find (λ (f : Field). bytes_eq f.text text) fields)

abbrev pub AreTypes : Option (List TextType) → List Field → Type 0
AreTypes types fields = option_map (map text_value) types ≡ all_typed (map (λ (f : Field). f.type) fields)

-- It is what is known of these fields.
pub record IsFields (known : RecordFields) (fields : List Field) : Type 0 where
  pub by_name : ByName known.by_name fields
  pub types : AreTypes known.types fields

-- the same of each record
abbrev pub AreFields : List RecordFields → List (List Field) → Type 0
AreFields [] [] = Unit {0}
AreFields [] (fields ∷ records) = ⊥
AreFields (known ∷ table) [] = ⊥
AreFields (known ∷ table) (fields ∷ records) = IsFields known fields × AreFields table records

-- The list tells which fields of record n may be of their types.
abbrev pub AreAllowed : List Bool → List Declared → FieldTypes → ℕ → List TypedName → Type 0
AreAllowed own names written n fields =
    (k : ℕ) (field : TypedName) → slice_get fields k ≡ Some field → get_or own k false ≡ is_allowed written n k (judged_type names field.ty).type

-- A field was judged behind those in the table: it has this type, and its faults were told of.
pub record IsField (before after : Option Fault) (type : Option TextType) (table : List (List ℕ × Option TextType)) (own : List Bool) (k : ℕ)
    (names : List Declared) (field : TypedName) : Type 0 where
  pub told : after ≡ with_first before
      (unless (not (is_named table field.written.text)) (duplicate_name field.written.place)
      ++ (judged_type names field.ty).faults
      ++ unless (get_or own k false) (type_differs (type_place field.ty)))
  pub is : option_map text_value type ≡ (if get_or own k false then (judged_type names field.ty).type else None)

-- The fields before these others, which begin at the place k, were judged.
pub record FieldsSoFar (start told : Option Fault) (typed : Bool) (types : List TextType) (table : List (List ℕ × Option TextType)) (own : List Bool)
    (names : List Declared) (written : FieldTypes) (n : ℕ) (all : List TypedName) (k : ℕ) (others : List TypedName) : Type 0 where
  pub done : List Field
  pub before : List (List ℕ)
  pub are : done ++ fields_from names written n k others ≡ fields_from names written n 0 all
  pub by_name : ByName table done
  pub are_typed : AreTypes (typed_by typed types) done
  pub seen : (text : List ℕ) → is_named table text ≡ is_member bytes_eq before text
  pub faults : with_first told (field_faults names written n k before others) ≡ with_first start (field_faults names written n 0 [] all)

-- All these fields were judged.
pub record AreAllFields (start told : Option Fault) (typed : Bool) (types : List TextType) (table : List (List ℕ × Option TextType))
    (names : List Declared) (written : FieldTypes) (n : ℕ) (all : List TypedName) : Type 0 where
  pub told_of : told ≡ with_first start (field_faults names written n 0 [] all)
  pub by_name : ByName table (fields_from names written n 0 all)
  pub are_typed : AreTypes (typed_by typed types) (fields_from names written n 0 all)
