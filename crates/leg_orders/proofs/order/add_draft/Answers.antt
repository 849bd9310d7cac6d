use Rattle.std.proofs.Common.{[], ◌∷◌, sym, subst}
use Rattle.std.proofs.lemmas.Result.{on_ok_weaker}
use Rattle.lk_claims.specs.Claim.{claim_tree}
use Rattle.leg_rules.specs.Numbering.{claim_appears, item_appears, of_variable}
use Rattle.leg_items.specs.Names.{leg_name}
use Rattle.leg_items.specs.Drafts.{draft_item, framed}
use Rattle.leg_orders.specs.Walks.{Follows}
use Rattle.leg_orders.proofs.Walks.{follows_then}
use Rattle.leg_orders.proofs.order.add_draft.Goals as goal

pub returns-in_ok-add_name-in-Set : goal.returns-in_ok-add_name-in-Set
returns-in_ok-add_name-in-Set c =
    on_ok_weaker c.add_claim-in-Set.result
    (λ h. subst (λ d. Follows c.args.typed.now c.args.method c.args.order.now c.add_claim-in-Set.new.order (item_appears (draft_item d))) (sym c.in-Set.is)
    (follows_then c.args.typed.now c.args.method c.args.order.now c.add_name.new.order c.add_claim-in-Set.new.order (of_variable (leg_name c.in-Set.name) ∷ [])
    (claim_appears (framed c.in-Set.frame (claim_tree c.in-Set.claim))) c.in_ok-add_name-in-Set.ensures h))
    c.add_claim-in-Set.ensures
