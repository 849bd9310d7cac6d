use Rattle.std.proofs.Common.{◌≡◌, false, take}
use Rattle.std.specs.List.{list_any}
use Rattle.leg_rules.specs.LegNames.{same_name}
use Rattle.leg_rules.specs.Mentions.{item_mentions}
use Rattle.leg_items.specs.Names.{leg_name}
use Rattle.leg_items.specs.Drafts.{draft_item}
use Rattle.leg_mentions.proofs.drafts.drafts_mention.Given as goal

abbrev pub invariant-loop-item : goal.invariant-loop-item
invariant-loop-item l = list_any (λ item. item_mentions (same_name (leg_name l.name)) (draft_item item.draft)) (take l.item-index l.drafts) ≡ false
