use Rattle.deduction.specs.Steps.{step_trees}
use Rattle.deduction_tests.specs.Claims.{AreTestSteps}
use Rattle.deduction_tests.proofs.steps.add_lines.Given as goal

abbrev pub invariant-loop-one : goal.invariant-loop-one
invariant-loop-one l = AreTestSteps (step_trees l.steps)
