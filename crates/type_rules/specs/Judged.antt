-- What is found at a part of a text: its faults, and its type.
use Rattle.std.specs.Prelude.{Bool, true, false, List, [], ◌∷◌, ◌++◌, if◌then◌else◌, flat_map, Option, Some, None}
use Rattle.std.specs.Option.{is_some, unwrap_or}
use Rattle.std.specs.List.{list_all}
use Rattle.slang_values.specs.Value.{ValueType, unit_type, same_type, sequence_type}
use Rattle.slang_tree.specs.declared.place.Place.{Place}
use Rattle.slang_tree.specs.declared.place.Fault.{Fault}
use Rattle.type_rules.specs.Faults.{type_differs, unless}

-- A part has no type where it holds a fault, or a name of which what is written for its type has one.
pub record Judged : Type 0 where
  pub place : Place
  pub faults : List Fault
  pub type : Option ValueType

abbrev pub well : Place → ValueType → Judged
well place t = record { place = place; faults = []; type = Some t }

abbrev pub untyped : Place → List Fault → Judged
untyped place faults = record { place = place; faults = faults; type = None }

-- ---- of parts

abbrev pub faults_of : List Judged → List Fault
faults_of parts = flat_map (λ part. part.faults) parts

abbrev pub are_typed : List Judged → Bool
are_typed parts = list_all (λ part. is_some part.type) parts

-- the type of a part that has one
abbrev pub known_type : Judged → ValueType
known_type part = unwrap_or part.type unit_type

abbrev pub typed_without : List Fault → Option ValueType → Option ValueType
typed_without [] type = type
typed_without (found ∷ faults) type = None

-- What is found at a form with these parts. Faults of its own are told where all its parts have types. Where it has none it is of
-- this type.
abbrev pub over : Place → List Judged → List Fault → Option ValueType → Judged
over place parts own type = record {
  place = place;
  faults = faults_of parts ++ (if are_typed parts then own else []);
  type = if are_typed parts then typed_without own type else None;
}

-- the part is of this type
abbrev pub expects : ValueType → Judged → List Fault
expects t part = unless (same_type t (known_type part)) (type_differs part.place)

abbrev pub all_expect : ValueType → List Judged → List Fault
all_expect t parts = flat_map (expects t) parts

-- one part for each type, of that type
abbrev pub expect_each : List ValueType → List Judged → List Fault
expect_each [] parts = []
expect_each (t ∷ ts) [] = []
expect_each (t ∷ ts) (part ∷ parts) = expects t part ++ expect_each ts parts

-- what is wrong with a part that is to be of a type, if it has one at all
abbrev pub faults_against : ValueType → Judged → List Fault
faults_against t part = part.faults ++ (if is_some part.type then expects t part else [])

-- the same where the type itself may have a fault
abbrev pub faults_against_optional : Option ValueType → Judged → List Fault
faults_against_optional None part = part.faults
faults_against_optional (Some t) part = faults_against t part

abbrev pub is_sequence : ValueType → Bool
is_sequence (sequence_type t) = true
is_sequence other = false
