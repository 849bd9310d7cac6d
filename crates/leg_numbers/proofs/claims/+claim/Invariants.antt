use Rattle.std.proofs.Common.{◌≡◌, ◌+◌, ◌*◌, max, map, take}
use Rattle.lk_claims.specs.declared.claim.Claim.{size-Claim}
use Rattle.lk_claims.specs.Claim.{claim_tree}
use Rattle.lk_claims.specs.Shape.{deepest}
use Rattle.leg_items.specs.Drafts.{framed}
use Rattle.leg_numbers.specs.Numbered.{numbered_claim}
use Rattle.leg_numbers.proofs.claims.+claim.Given as goal

abbrev pub decreases-claim_numbered : goal.decreases-claim_numbered
decreases-claim_numbered l = 2 * size-Claim l.claim.now

abbrev pub decreases-binary_numbered : goal.decreases-binary_numbered
decreases-binary_numbered l = 2 * max (size-Claim l.a.now) (size-Claim l.b.now) + 1

abbrev pub decreases-update_numbered : goal.decreases-update_numbered
decreases-update_numbered l = 2 * max (size-Claim l.a.now) (max (size-Claim l.i.now) (size-Claim l.x.now)) + 1

abbrev pub decreases-quantified_numbered : goal.decreases-quantified_numbered
decreases-quantified_numbered l = 2 * max (size-Claim l.low.now) (max (size-Claim l.high.now) (size-Claim l.body.now)) + 1

abbrev pub decreases-claims_numbered : goal.decreases-claims_numbered
decreases-claims_numbered l = 2 * deepest l.claims.now + 1

abbrev pub invariant-claims_numbered-loop-claim : goal.invariant-claims_numbered-loop-claim
invariant-claims_numbered-loop-claim l =
    map claim_tree l.numbered ≡ map (λ claim. numbered_claim l.order (framed l.frame (claim_tree claim))) (take l.claim-index l.claims)
