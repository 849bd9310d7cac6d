use Rattle.std.proofs.Common.{◌≡◌, ◌+◌, ◌*◌, take, map}
use Rattle.slang_tree.specs.declared.statement.Step.{size-Step}
use Rattle.slang_tree.specs.StmtTree.{step_tree, steps_of}
use Rattle.type_rules.specs.Meanings.{Scope}
use Rattle.type_rules.specs.Steps.{steps_faults}
use Rattle.type_faults.specs.FirstFault.{with_first}
use Rattle.name_scopes.specs.Fits.{Fits}
use Rattle.step_judging.specs.Sizes.{deepest}
use Rattle.step_judging.proofs.steps.+steps.Given as goal

abbrev pub decreases-judged_step : goal.decreases-judged_step
decreases-judged_step l = 3 * size-Step l.step.now

abbrev pub decreases-judged_block : goal.decreases-judged_block
decreases-judged_block l = 3 * deepest l.steps.now + 2

abbrev pub decreases-judged_steps : goal.decreases-judged_steps
decreases-judged_steps l = 3 * deepest l.steps.now + 1

-- The steps so far were judged, and the scope is the one before them.
abbrev pub invariant-judged_steps-loop-step : goal.invariant-judged_steps-loop-step
invariant-judged_steps-loop-step l =
    ((at : Scope) → Fits l.fn.scope at → l.told.found ≡ with_first l.fn.told.found (steps_faults at (steps_of (map step_tree (take l.step-index l.steps)))))
    × (l.scope ≡ l.fn.scope)
