use Rattle.std.proofs.Common.{◌≡◌, ◌+◌, ◌*◌, take}
use Rattle.slang_tree.specs.declared.statement.Step.{size-Step}
use Rattle.step_judging.specs.Sizes.{deepest}
use Rattle.step_making.specs.Made.{AreSteps}
use Rattle.step_making.proofs.making.+steps.Given as goal

abbrev pub decreases-made_step : goal.decreases-made_step
decreases-made_step l = 3 * size-Step l.step.now

abbrev pub decreases-made_block : goal.decreases-made_block
decreases-made_block l = 3 * deepest l.steps.now + 2

abbrev pub decreases-made_steps : goal.decreases-made_steps
decreases-made_steps l = 3 * deepest l.steps.now + 1

-- The steps so far are made, and the scope is the one before them.
abbrev pub invariant-made_steps-loop-step : goal.invariant-made_steps-loop-step
invariant-made_steps-loop-step l =
    AreSteps l.records l.numbers l.fn.scope (take l.step-index l.steps) l.made × (l.scope ≡ l.fn.scope)
