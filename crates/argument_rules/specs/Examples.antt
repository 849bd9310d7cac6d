-- Constants as values of types, computed.
use Rattle.std.specs.Prelude.{◌≡◌, ℕ, pos, negsuc, true, false, List, [], ◌∷◌, Some, None, codes}
use Rattle.slang_values.specs.Value.{ValueType, number_type, truth_type, sequence_type, record_type, Records, Value, number, truth, sequence, record_value, no_values, value_then}
use Rattle.slang_tree.specs.declared.expression.Name.{Name}
use Rattle.slang_grammar.specs.Parts.{ElementText, z_type}
use Rattle.slang_grammar.specs.Parts as written
use Rattle.slang_grammar.specs.Declarations.{ConstText, const_number, const_minus, const_truth, const_sequence, const_record, ConstsText, no_consts, last_const, const_then}
use Rattle.argument_rules.specs.Words.{nowhere}
use Rattle.argument_rules.specs.Values.{const_value}
use Rattle.argument_rules.specs.Arguments.{is_below_zero}

-- records `Valve`, of a truth value and a number, and `Pair`, of two numbers
abbrev pub names : List (List ℕ)
names = codes "Valve" ∷ codes "Pair" ∷ []

abbrev pub records : Records
records = (truth_type ∷ number_type ∷ []) ∷ (number_type ∷ number_type ∷ []) ∷ []

abbrev pub named : List ℕ → Name
named text = record { text = text; place = nowhere }

abbrev pub three : ConstText
three = const_number (codes "3") nowhere

abbrev pub minus_three : ConstText
minus_three = const_minus nowhere (codes "3") nowhere

-- `Valve(T, 3)`, and with a comma behind it
abbrev pub valve : ConstText
valve = const_record (named (codes "Valve")) nowhere (const_then (const_truth nowhere) nowhere (last_const three)) nowhere

abbrev pub valve_and_comma : ConstText
valve_and_comma = const_record (named (codes "Valve")) nowhere (const_then (const_truth nowhere) nowhere (const_then three nowhere no_consts)) nowhere

-- `Pair(T, 3)`, which is none
abbrev pub no_pair : ConstText
no_pair = const_record (named (codes "Pair")) nowhere (const_then (const_truth nowhere) nowhere (last_const three)) nowhere

abbrev pub of_numbers : ElementText
of_numbers = record { left = nowhere; ty = z_type nowhere; right = nowhere }

-- `ISZ[Z]()`
abbrev pub no_numbers : ConstText
no_numbers = const_sequence nowhere (Some of_numbers) nowhere no_consts nowhere

abbrev pub valves : ConstText
valves = const_sequence nowhere None nowhere (const_then valve nowhere (last_const valve)) nowhere

abbrev pub open_valve : Value
open_valve = record_value 0 (value_then (truth true) (value_then (number (pos 3)) no_values))

-- the digits of 2 ^ 127, and of the number behind it
abbrev pub edge : List ℕ
edge = codes "170141183460469231731687303715884105728"

abbrev pub beyond : List ℕ
beyond = codes "170141183460469231731687303715884105729"

pub record ArgumentExamples : Type 0 where
  pub a_number : const_value names records three number_type ≡ Some (number (pos 3))
  pub below_zero : const_value names records minus_three number_type ≡ Some (number (negsuc 2))
  pub of_another_type : const_value names records three truth_type ≡ None
  pub a_record : const_value names records valve (record_type 0) ≡ Some open_valve
  pub comma_behind : const_value names records valve_and_comma (record_type 0) ≡ Some open_valve
  pub another_record : const_value names records valve (record_type 1) ≡ None
  pub field_of_another_type : const_value names records no_pair (record_type 1) ≡ None
  pub no_elements : const_value names records no_numbers (sequence_type number_type) ≡ Some (sequence number_type no_values)
  pub other_elements : const_value names records no_numbers (sequence_type truth_type) ≡ None
  pub a_sequence : const_value names records valves (sequence_type (record_type 0)) ≡ Some (sequence (record_type 0) (value_then open_valve (value_then open_valve no_values)))
  pub least : is_below_zero edge ≡ true
  pub below_least : is_below_zero beyond ≡ false
