-- Types as they stand in a text.
use Rattle.std.specs.Prelude.{List, [], ◌∷◌, Option, Some, None}
use Rattle.std.specs.Option.{option_map}
use Rattle.slang_values.specs.Value.{unit_type, number_type, truth_type, sequence_type, record_type}
use Rattle.slang_tree.specs.declared.place.Place.{Place}
use Rattle.slang_tree.specs.declared.expression.Name.{Name}
use Rattle.slang_tree.specs.TypeTree.{TypeTree, z_name, b_name, unit_name, sequence_name, record_name}
use Rattle.type_rules.specs.Faults.{unknown_name, type_differs}
use Rattle.type_rules.specs.Meanings.{Meaning, record_class, Declared, meaning_among}
use Rattle.type_rules.specs.Judged.{Judged, well, untyped, over}

-- A name that stands as a type is that of a record.
abbrev pub as_type : Place → Option Meaning → Judged
as_type place None = untyped place (unknown_name place ∷ [])
as_type place (Some (record_class number)) = well place (record_type number)
as_type place (Some other) = untyped place (type_differs place ∷ [])

abbrev pub judged_name : List Declared → Name → Judged
judged_name names written = as_type written.place (meaning_among names written.text)

-- the type of the elements of a sequence: a number, a truth value or a record
abbrev pub judged_element : List Declared → TypeTree → Judged
judged_element names (z_name place) = well place number_type
judged_element names (b_name place) = well place truth_type
judged_element names (unit_name place) = untyped place (type_differs place ∷ [])
judged_element names (sequence_name place element) = untyped place (type_differs place ∷ (judged_element names element).faults)
judged_element names (record_name written) = judged_name names written

abbrev pub judged_sequence : Place → Judged → Judged
judged_sequence place element = over place (element ∷ []) [] (option_map sequence_type element.type)

-- the type of a variable or a field: any but `Unit`
abbrev pub judged_type : List Declared → TypeTree → Judged
judged_type names (z_name place) = well place number_type
judged_type names (b_name place) = well place truth_type
judged_type names (unit_name place) = untyped place (type_differs place ∷ [])
judged_type names (sequence_name place element) = judged_sequence place (judged_element names element)
judged_type names (record_name written) = judged_name names written

-- the type of the result of a method
abbrev pub judged_result : List Declared → TypeTree → Judged
judged_result names (unit_name place) = well place unit_type
judged_result names other = judged_type names other
