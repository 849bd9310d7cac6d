use Rattle.deduction.specs.Steps.{step_trees}
use Rattle.deduction_tests.specs.Claims.{AreTestSteps}
use Rattle.deduction_tests.proofs.tables.add_premises.Given as goal

abbrev pub invariant-loop-number : goal.invariant-loop-number
invariant-loop-number l = AreTestSteps (step_trees l.steps)
