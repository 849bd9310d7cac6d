use Rattle.std.proofs.Common.{take}
use Rattle.lk_claims.specs.Step.{step_trees}
use Rattle.step_terms.specs.Steps.{AreReadableSteps}
use Rattle.exec_tests.proofs.readable.are_readable_steps.Given as goal

abbrev pub invariant-loop-step : goal.invariant-loop-step
invariant-loop-step l = AreReadableSteps l.count (step_trees (take l.step-index l.steps))
