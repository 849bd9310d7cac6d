use Rattle.std.proofs.Common.{◌≡◌, ◌+◌, ◌*◌, take, Bool, None}
use Rattle.validity.specs.Validity.{SequentTree}
use Rattle.lk_terms.specs.declared.step.StepTerm.{size-StepTerm}
use Rattle.deduction_rules.specs.Step.{StepTrees}
use Rattle.deduction_rules.specs.Deduction.{Before, passed, after_steps}
use Rattle.proof_closing.specs.Prover.{plain_sequent, Work, Leaves}
use Rattle.proof_scopes.specs.Scope.{before_of}
use Rattle.deduction.specs.Steps.{step_trees, deepest}
use Rattle.deduction.proofs.checking.+check.Given as goal

abbrev pub decreases-check_step : goal.decreases-check_step
decreases-check_step g l = 3 * size-StepTerm l.step.now

abbrev pub decreases-check_block : goal.decreases-check_block
decreases-check_block g l = 3 * deepest l.steps.now + 2

abbrev pub decreases-check_steps : goal.decreases-check_steps
decreases-check_steps g l = 3 * deepest l.steps.now + 1

-- the steps so far have passed, and the prover was not stopped
pub record PassesSo (closes : SequentTree → Bool) (base : SequentTree) (first now : Before) (steps : StepTrees) (before after : Work) : Type 0 where
  pub passes : after_steps closes base first steps ≡ passed now
  pub leaves : Leaves before after None

abbrev pub invariant-check_steps-loop-step : goal.invariant-check_steps-loop-step
invariant-check_steps-loop-step g l =
    PassesSo g.P.Prover.closes (plain_sequent l.base) (before_of l.fn.scope) (before_of l.scope) (step_trees (take l.step-index l.steps))
    (g.P.Prover.work l.fn.prover) (g.P.Prover.work l.prover)
