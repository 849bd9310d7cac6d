use Rattle.std.proofs.Common.{◌+◌, ◌*◌, take}
use Rattle.slang_tree.specs.declared.statement.Step.{size-Step}
use Rattle.expression_printing.specs.Printed.{Adds}
use Rattle.step_printing.specs.Sizes.{deepest}
use Rattle.step_printing.specs.Printed.{steps_behind}
use Rattle.step_printing.proofs.steps.+printing.Given as goal

abbrev pub decreases-add_step : goal.decreases-add_step
decreases-add_step l = 4 * size-Step l.step.now

abbrev pub decreases-add_block : goal.decreases-add_block
decreases-add_block l = 4 * deepest l.steps.now + 2

abbrev pub decreases-add_behind : goal.decreases-add_behind
decreases-add_behind l = 4 * deepest l.steps.now + 1

-- the steps so far were added
abbrev pub invariant-add_behind-loop-step : goal.invariant-add_behind-loop-step
invariant-add_behind-loop-step l = Adds l.fn.text.items l.text.items (steps_behind l.light l.depth (take l.step-index l.steps))
