-- What is wrong with the steps of a proof.
use Rattle.std.specs.Prelude.{ℕ, nat_eq, Bool, true, not, List, [], ◌∷◌, ◌++◌, length, Option, Some, None}
use Rattle.std.specs.Set.{is_member}
use Rattle.slang_values.specs.Value.{truth_type}
use Rattle.slang_tree.specs.declared.place.Place.{Place}
use Rattle.slang_tree.specs.declared.place.Fault.{Fault}
use Rattle.slang_tree.specs.declared.expression.Name.{Name}
use Rattle.slang_tree.specs.declared.statement.Label.{Label}
use Rattle.slang_tree.specs.declared.rules.Cited.{Cited}
use Rattle.slang_tree.specs.declared.rules.Cited.TheVariants.{Exactly, Any}
use Rattle.slang_tree.specs.declared.rules.Rule.{Rule}
use Rattle.slang_tree.specs.Rules.{rule_named}
use Rattle.slang_tree.specs.ExprTree.{ExprTree}
use Rattle.slang_tree.specs.StmtTree.{StepTree, line, block, let_block, StepTrees, no_steps, step_then}
use Rattle.type_rules.specs.Faults.{unknown_name, duplicate_name, argument_count, unless}
use Rattle.type_rules.specs.Meanings.{Scope, is_known, block_variable, with_name}
use Rattle.type_rules.specs.Judged.{faults_against}
use Rattle.type_rules.specs.Expressions.{in_proof, judged}

abbrev pub takes : Cited → ℕ → Bool
takes (Exactly n) count = nat_eq n count
takes Any count = true

abbrev pub cited_faults : Place → ℕ → Option Rule → List Fault
cited_faults place count None = unknown_name place ∷ []
cited_faults place count (Some rule) = unless (takes rule.cited count) (argument_count place)

abbrev pub rule_faults : Name → List Label → List Fault
rule_faults rule cites = cited_faults rule.place (length cites) (rule_named rule.text)

abbrev pub claim_faults : Scope → ExprTree → List Fault
claim_faults scope claim = faults_against truth_type (judged scope in_proof claim)

-- no such name is in scope
abbrev pub new_name_faults : Scope → Name → List Fault
new_name_faults scope written = unless (not (is_known scope written.text)) (duplicate_name written.place)

abbrev mutual
  pub step_faults : Scope → StepTree → List Fault
  step_faults scope (line label claim rule cites) = claim_faults scope claim ++ rule_faults rule cites
  step_faults scope (block label assumed given steps) = claim_faults scope given ++ steps_faults scope steps
  step_faults scope (let_block label variable assumed given steps) =
      new_name_faults scope variable
      ++ claim_faults (with_name scope variable.text (block_variable label.number)) given
      ++ steps_faults (with_name scope variable.text (block_variable label.number)) steps

  pub steps_faults : Scope → StepTrees → List Fault
  steps_faults scope no_steps = []
  steps_faults scope (step_then step steps) = step_faults scope step ++ steps_faults scope steps

-- ---- labels

abbrev mutual
  -- the label of the step, that of what it assumes, and those of the steps inside
  pub labels_of_step : StepTree → List Label
  labels_of_step (line label claim rule cites) = label ∷ []
  labels_of_step (block label assumed given steps) = label ∷ assumed ∷ labels_of steps
  labels_of_step (let_block label variable assumed given steps) = label ∷ assumed ∷ labels_of steps

  pub labels_of : StepTrees → List Label
  labels_of no_steps = []
  labels_of (step_then step steps) = labels_of_step step ++ labels_of steps

-- each label that stands before, or among `before`
abbrev pub repeated_labels : List ℕ → List Label → List Fault
repeated_labels before [] = []
repeated_labels before (label ∷ labels) =
    unless (not (is_member nat_eq before label.number)) (duplicate_name label.place) ++ repeated_labels (label.number ∷ before) labels

-- what is wrong with a proof: the labels of its steps all differ
abbrev pub proof_faults : Scope → StepTrees → List Fault
proof_faults scope steps = repeated_labels [] (labels_of steps) ++ steps_faults scope steps
