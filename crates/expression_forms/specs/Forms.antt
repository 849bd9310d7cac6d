-- Faults of some forms, as the rules have them.
use Rattle.std.specs.Prelude.{List, [], ◌∷◌, ◌++◌, if◌then◌else◌, Option}
use Rattle.std.specs.Option.{option_map}
use Rattle.slang_values.specs.Value.{number_type, element_type, is_element_type}
use Rattle.slang_tree.specs.declared.place.Place.{Place}
use Rattle.slang_tree.specs.declared.place.Fault.{Fault}
use Rattle.type_rules.specs.Faults.{type_differs}
use Rattle.type_rules.specs.Judged.{Judged, all_expect, expects, is_sequence, known_type}
use Rattle.type_rules.specs.Expressions.{index_faults}
use Rattle.text_types.specs.declared.text_type.ElementType.{ElementType}
use Rattle.text_types.specs.TextType.{element_value}

-- of a read of a sequence
abbrev pub read_faults : Place → Judged → List Judged → List Fault
read_faults place head arguments = if is_sequence (known_type head) then index_faults head arguments place else type_differs place ∷ []

-- of a sequence with another element at an index
abbrev pub update_faults : Place → Judged → Judged → Judged → List Fault
update_faults place head index element =
    if is_sequence (known_type head) then expects number_type index ++ expects (element_type (known_type head)) element else type_differs place ∷ []

-- of elements, the first of which tells the type
abbrev pub elements_faults : Judged → List Judged → List Fault
elements_faults first others = if is_element_type (known_type first) then all_expect (known_type first) others else type_differs first.place ∷ []

-- the type that stands in front of elements
abbrev pub front_seen : Place → Option ElementType → Judged
front_seen at front = record { place = at; faults = []; type = option_map element_value front }
