use Rattle.deduction.specs.Steps.{step_trees}
use Rattle.deduction_tests.specs.Claims.{AreTestSteps}
use Rattle.deduction_tests.proofs.steps.add_steps.Given as goal

abbrev pub invariant-loop-row : goal.invariant-loop-row
invariant-loop-row l = AreTestSteps (step_trees l.steps)
