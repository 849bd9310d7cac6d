use Rattle.std.proofs.Common.{◌≡◌, false, take}
use Rattle.std.specs.List.{list_any}
use Rattle.lk_claims.specs.Step.{step_tree}
use Rattle.program_trees.specs.Claims.{renamed_step}
use Rattle.leg_rules.specs.LegNames.{same_name}
use Rattle.leg_rules.specs.Mentions.{step_mentions}
use Rattle.leg_items.specs.Names.{frame_name, leg_name}
use Rattle.leg_mentions.proofs.drafts.+steps.Given as goal

abbrev pub invariant-steps_mention-loop-step : goal.invariant-steps_mention-loop-step
invariant-steps_mention-loop-step l =
    list_any (λ step. step_mentions (same_name (leg_name l.name)) (renamed_step (frame_name l.frame) (step_tree step))) (take l.step-index l.steps) ≡ false
