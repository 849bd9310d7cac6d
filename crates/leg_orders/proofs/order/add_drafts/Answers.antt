use Rattle.std.proofs.Common.{[], ◌∷◌, ◌++◌, take, length, ◌<◌, ◌+◌, sym, ap, ◌∙◌, arith}
use Rattle.std.proofs.lemmas.List.{take_more}
use Rattle.leg_rules.specs.Numbering.{item_appears}
use Rattle.leg_items.specs.Drafts.{draft_item}
use Rattle.leg_orders.proofs.Walks.{follows_more, follows_nothing}
use Rattle.leg_orders.proofs.order.add_drafts.Goals as goal

pub loop-item-init : goal.loop-item-init
loop-item-init c = follows_nothing c.args.typed.now c.args.method c.args.order.now c.requires

pub loop-item-preserved : goal.loop-item-preserved
loop-item-preserved c =
    let drafts = c.args.drafts.now in
    let i = c.loop-item.item-index in
    let below : i < length drafts = omega (arith, c.loop-item-test.true) in
    follows_more c.args.typed.now c.args.method (λ item. item_appears (draft_item item.draft)) (take i drafts) (take (i + 1) drafts) c.item-item.result
    c.args.order.now c.loop-item.order c.add_draft.new.order
    (take_more drafts i c.item-item.result below ∙ ap (λ x. take i drafts ++ x ∷ []) (sym c.item-item.is))
    c.loop-item.invariant c.in_ok-add_draft.ensures
