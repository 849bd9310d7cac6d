use Rattle.std.proofs.Common.{◌+◌, ◌*◌, max, take}
use Rattle.lk_claims.specs.declared.claim.Claim.{size-Claim}
use Rattle.lk_claims.specs.Shape.{deepest}
use Rattle.leg_orders.specs.Walks.{Follows, claims_appear}
use Rattle.leg_orders.proofs.order.+claim.Given as goal

abbrev pub decreases-add_claim : goal.decreases-add_claim
decreases-add_claim l = 2 * size-Claim l.claim.now

abbrev pub decreases-add_three : goal.decreases-add_three
decreases-add_three l = 2 * max (size-Claim l.first.now) (max (size-Claim l.second.now) (size-Claim l.third.now)) + 1

abbrev pub decreases-add_claims : goal.decreases-add_claims
decreases-add_claims l = 2 * deepest l.claims.now + 1

abbrev pub invariant-add_claims-loop-claim : goal.invariant-add_claims-loop-claim
invariant-add_claims-loop-claim l = Follows l.typed l.method l.fn.order l.order (claims_appear l.frame (take l.claim-index l.claims))
