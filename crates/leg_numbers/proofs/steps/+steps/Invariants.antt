use Rattle.std.proofs.Common.{◌≡◌, map, take}
use Rattle.lk_claims.specs.Step.{step_tree}
use Rattle.program_trees.specs.Claims.{renamed_step}
use Rattle.leg_items.specs.Names.{frame_name}
use Rattle.leg_numbers.specs.Numbered.{numbered_step}
use Rattle.leg_numbers.proofs.steps.+steps.Given as goal

abbrev pub invariant-steps_numbered-loop-step : goal.invariant-steps_numbered-loop-step
invariant-steps_numbered-loop-step l =
    map step_tree l.numbered ≡ map (λ step. numbered_step l.order (renamed_step (frame_name l.frame) (step_tree step))) (take l.step-index l.steps)
