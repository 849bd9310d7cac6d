use Rattle.std.proofs.Common.{◌≡◌, map, take}
use Rattle.lk_claims.specs.Step.{step_tree}
use Rattle.leg_items.proofs.steps.+copy.Given as goal

abbrev pub invariant-copy_steps-loop-step : goal.invariant-copy_steps-loop-step
invariant-copy_steps-loop-step l = map step_tree l.copies ≡ map step_tree (take l.step-index l.steps)
