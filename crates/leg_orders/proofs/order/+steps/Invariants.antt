use Rattle.std.proofs.Common.{take}
use Rattle.std.specs.List.{flat_map}
use Rattle.lk_claims.specs.Step.{step_tree}
use Rattle.program_trees.specs.Claims.{renamed_step}
use Rattle.leg_rules.specs.Numbering.{step_appears}
use Rattle.leg_items.specs.Names.{frame_name}
use Rattle.leg_orders.specs.Walks.{Follows}
use Rattle.leg_orders.proofs.order.+steps.Given as goal

abbrev pub invariant-add_steps-loop-step : goal.invariant-add_steps-loop-step
invariant-add_steps-loop-step l =
    Follows l.typed l.method l.fn.order l.order (flat_map (λ s. step_appears (renamed_step (frame_name l.frame) (step_tree s))) (take l.step-index l.steps))
