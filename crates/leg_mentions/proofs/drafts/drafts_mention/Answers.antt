use Rattle.std.proofs.Common.{sym, ◌∙◌, arith}
use Rattle.leg_rules.specs.LegNames.{same_name}
use Rattle.leg_rules.specs.Mentions.{item_mentions}
use Rattle.leg_items.specs.Names.{leg_name}
use Rattle.leg_items.specs.Drafts.{draft_item, noted_item}
use Rattle.leg_mentions.proofs.MentionLines.{any-map, found, none_left}
use Rattle.leg_mentions.proofs.drafts.drafts_mention.Goals as goal

pub returns-then-draft_mentions : goal.returns-then-draft_mentions
returns-then-draft_mentions c =
    let test = same_name (leg_name c.args.name) in
    sym (any-map (λ noted. item_mentions test noted.item) noted_item c.args.drafts.now
    ∙ found (λ item. item_mentions test (draft_item item.draft)) c.args.drafts.now c.loop-item.item-index c.item-item.result
    (omega (arith, c.loop-item-test.true)) c.item-item.is (sym c.if-draft_mentions.ensures))

pub returns : goal.returns
returns c =
    let test = same_name (leg_name c.args.name) in
    sym (any-map (λ noted. item_mentions test noted.item) noted_item c.args.drafts.now
    ∙ none_left (λ item. item_mentions test (draft_item item.draft)) c.args.drafts.now c.loop-item.item-index
    (omega (arith, c.loop-item-test.false)) c.loop-item.invariant)
