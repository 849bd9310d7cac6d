use Rattle.std.proofs.Common.{refl}
use Rattle.std.proofs.lemmas.Result.{on_ok_weaker}
use Rattle.lk_claims.specs.Claim.{claim_tree}
use Rattle.leg_items.specs.Drafts.{items_of}
use Rattle.leg_items.proofs.AddedItems.{pushed}
use Rattle.leg_paths.proofs.Constants.{due, not_due}
use Rattle.leg_paths.proofs.initial.add_fixed.Goals as goal

pub returns-then-not-is_due : goal.returns-then-not-is_due
returns-then-not-is_due c =
    not_due c.args.scope c.args.node.0 (items_of c.args.drafts.now) c.args.number c.args.global.now (items_of c.args.out.now) c.if-not-is_due.ensures

pub returns : goal.returns
returns c =
    on_ok_weaker c.push.result
    (λ h. due c.args.scope c.args.node.0 (items_of c.args.drafts.now) c.args.number c.args.global.now (claim_tree c.in_ok-claim.claim) (items_of c.args.out.now) (items_of c.push.new.self)
    c.if-not-is_due.ensures c.in_ok-claim.ensures (pushed c.args.out.now c.push.new.self _ _ h refl))
    c.push.ensures.ok
