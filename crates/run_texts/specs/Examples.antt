-- The texts of small values and runs, computed.
use Rattle.std.specs.Prelude.{◌≡◌, ℕ, pos, negsuc, true, false, [], ◌∷◌, codes}
use Rattle.slang_values.specs.Value.{number_type, Value, unit, number, truth, sequence, record_value, Values, no_values, value_then}
use Rattle.slang_tree.specs.declared.expression.Operator.TheVariants as o
use Rattle.stopped_runs.specs.Examples.{greatest, run_alone, inc, divided, twice}
use Rattle.run_texts.specs.Texts.{Names, NodePlace, value_text, run_text}

-- a text on standard input, whose nodes stand in its lines in the order of their numbers, each at the fifth column
abbrev pub node_at : ℕ → NodePlace
node_at line = record { file = 0; place = record { line = line; col = 5 } }

abbrev pub plain : Names
plain = record {
  files = codes "-" ∷ [];
  records = codes "Valve" ∷ [];
  nodes = node_at 1 ∷ node_at 2 ∷ node_at 3 ∷ node_at 4 ∷ node_at 5 ∷ node_at 6 ∷ [];
}

abbrev pub two : Value → Value → Values
two a b = value_then a (value_then b no_values)

abbrev pub open_valve : Value
open_valve = record_value 0 (two (truth true) (number (pos 3)))

pub record TextExamples : Type 0 where
  pub nothing : value_text plain unit ≡ codes "()"
  pub below_zero : value_text plain (number (negsuc 2)) ≡ codes "-3"
  pub false_value : value_text plain (truth false) ≡ codes "F"
  pub no_elements : value_text plain (sequence number_type no_values) ≡ codes "ISZ()"
  pub two_elements : value_text plain (sequence number_type (two (number (pos 1)) (number (pos 2)))) ≡ codes "ISZ(1, 2)"
  pub valves : value_text plain (sequence number_type (two open_valve open_valve)) ≡ codes "ISZ(Valve(T, 3), Valve(T, 3))"
  -- runs
  pub ended_run : run_text plain (run_alone inc (number (pos 1) ∷ []) 1) ≡ codes "ended 2\n"
  pub going_run : run_text plain (run_alone inc (number (pos 1) ∷ []) 0) ≡ codes "going\n"
  pub refused_run : run_text plain (run_alone inc (number (negsuc 0) ∷ []) 10) ≡ codes "fails requires -:2:5\n"
  pub wide_run : run_text plain (run_alone inc (number greatest ∷ []) 10) ≡ codes "wide -:6:5\n"
  pub rounded : run_text plain (run_alone (divided o.Div) (number (negsuc 6) ∷ number (pos 2) ∷ []) 10) ≡ codes "ended -3\n"
  pub with_sign : run_text plain (run_alone (divided o.Rem) (number (negsuc 6) ∷ number (pos 2) ∷ []) 10) ≡ codes "ended -1\n"
  pub by_zero : run_text plain (run_alone (divided o.Div) (number (pos 1) ∷ number (pos 0) ∷ []) 10) ≡ codes "fails division -:4:5\n"
  pub too_many_visits : run_text plain (run_alone twice (number (pos 4) ∷ []) 10) ≡ codes "visits -:3:5\n"
