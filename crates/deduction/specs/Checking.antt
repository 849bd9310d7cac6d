-- The steps of the code over a base, as plain data.
use Rattle.std.specs.Prelude.{ℕ, List, Bool, Option}
use Rattle.validity.specs.Validity.{SequentTree, symbol_types}
use Rattle.term_trees.specs.Term.{tree}
use Rattle.lk_terms.specs.declared.step.StepTerm.{StepTerm}
use Rattle.deduction_rules.specs.Step.{StepTree, line, block, StepTrees, IsSortedStep, AreSortedSteps}
use Rattle.deduction_rules.specs.Deduction.{Before, Refusal, citing, line_refusal}
use Rattle.deduction.specs.declared.line.Line.{Line}
use Rattle.deduction.specs.declared.checking.Opening.{Opening}
use Rattle.deduction.specs.Steps.{step_trees}

abbrev pub IsSortedOver : SequentTree → StepTree → Type 0
IsSortedOver base step = IsSortedStep base.records (symbol_types base) step

abbrev pub AreSortedOver : SequentTree → StepTrees → Type 0
AreSortedOver base steps = AreSortedSteps base.records (symbol_types base) steps

abbrev pub line_tree : ℕ → Line → StepTree
line_tree label l = line label (tree l.claim.now) l.rule l.cites.now

-- why the line is refused, where it is
abbrev pub refusal_of_line : (SequentTree → Bool) → SequentTree → Before → Line → Option Refusal
refusal_of_line closes base before l = line_refusal closes base before (tree l.claim.now) l.rule (citing before.visible l.cites.now)

abbrev pub block_tree : Opening → List StepTerm → StepTree
block_tree o steps = block o.label o.symbol o.assumed (tree o.given.now) (step_trees steps)
