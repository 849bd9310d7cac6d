use Rattle.std.proofs.Common.{take}
use Rattle.std.specs.List.{flat_map}
use Rattle.leg_rules.specs.Numbering.{item_appears}
use Rattle.leg_items.specs.Drafts.{draft_item}
use Rattle.leg_orders.specs.Walks.{Follows}
use Rattle.leg_orders.proofs.order.add_drafts.Given as goal

abbrev pub invariant-loop-item : goal.invariant-loop-item
invariant-loop-item l = Follows l.typed l.method l.fn.order l.order (flat_map (λ item. item_appears (draft_item item.draft)) (take l.item-index l.drafts))
