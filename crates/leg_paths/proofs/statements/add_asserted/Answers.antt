use Rattle.std.proofs.Common.{◌++◌, refl, ap, ◌∙◌}
use Rattle.std.proofs.lemmas.Result.{on_ok_weaker}
use Rattle.lk_claims.specs.Claim.{claim_tree}
use Rattle.leg_items.specs.Drafts.{items_of}
use Rattle.leg_items.proofs.AddedItems.{pushed}
use Rattle.leg_paths.proofs.Forms.{asserted}
use Rattle.leg_paths.proofs.statements.add_asserted.Goals as goal

pub returns : goal.returns
returns c =
    on_ok_weaker c.push.result
    (λ h. pushed c.args.out.now c.push.new.self _ _ h refl
    ∙ ap (λ l. items_of c.args.out.now ++ l) (asserted c.args.scope c.args.noted.now (claim_tree c.in_ok-claim.claim) c.in_ok-claim.ensures))
    c.push.ensures.ok
