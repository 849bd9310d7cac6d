-- The types that a text can name, as types of values.
use Rattle.slang_values.specs.Value.{ValueType, unit_type, number_type, truth_type, sequence_type, record_type}
use Rattle.text_types.specs.declared.text_type.ElementType.{ElementType}
use Rattle.text_types.specs.declared.text_type.ElementType.TheVariants as e
use Rattle.text_types.specs.declared.text_type.TextType.{TextType}
use Rattle.text_types.specs.declared.text_type.TextType.TheVariants as t

abbrev pub element_value : ElementType → ValueType
element_value e.Z = number_type
element_value e.B = truth_type
element_value (e.Record number) = record_type number

abbrev pub text_value : TextType → ValueType
text_value t.Unit = unit_type
text_value t.Z = number_type
text_value t.B = truth_type
text_value (t.Record number) = record_type number
text_value (t.Sequence element) = sequence_type (element_value element)
