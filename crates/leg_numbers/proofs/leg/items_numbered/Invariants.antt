use Rattle.std.proofs.Common.{◌≡◌, map, take}
use Rattle.lk_programs.specs.LegData.{item_tree}
use Rattle.leg_items.specs.Drafts.{draft_item}
use Rattle.leg_numbers.specs.Numbered.{numbered_item}
use Rattle.leg_numbers.proofs.leg.items_numbered.Given as goal

abbrev pub invariant-loop-item : goal.invariant-loop-item
invariant-loop-item l = map item_tree l.items ≡ map (λ item. numbered_item l.order (draft_item item.draft)) (take l.item-index l.drafts)
