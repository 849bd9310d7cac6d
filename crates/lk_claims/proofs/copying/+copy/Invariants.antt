use Rattle.std.proofs.Common.{◌≡◌, ◌+◌, ◌*◌, max, take, map}
use Rattle.lk_claims.specs.declared.claim.Claim.{size-Claim}
use Rattle.lk_claims.specs.Shape.{deepest}
use Rattle.lk_claims.specs.Claim.{claim_tree}
use Rattle.lk_claims.proofs.copying.+copy.Given as goal

abbrev pub decreases-copy_of : goal.decreases-copy_of
decreases-copy_of l = 2 * size-Claim l.claim.now

abbrev pub decreases-copy_binary : goal.decreases-copy_binary
decreases-copy_binary l = 2 * max (size-Claim l.a.now) (size-Claim l.b.now) + 1

abbrev pub decreases-copy_update : goal.decreases-copy_update
decreases-copy_update l = 2 * max (size-Claim l.a.now) (max (size-Claim l.i.now) (size-Claim l.x.now)) + 1

abbrev pub decreases-copy_quantified : goal.decreases-copy_quantified
decreases-copy_quantified l = 2 * max (size-Claim l.low.now) (max (size-Claim l.high.now) (size-Claim l.body.now)) + 1

abbrev pub decreases-copy_all : goal.decreases-copy_all
decreases-copy_all l = 2 * deepest l.claims.now + 1

abbrev pub invariant-copy_all-loop-claim : goal.invariant-copy_all-loop-claim
invariant-copy_all-loop-claim l = map claim_tree l.copies ≡ map claim_tree (take l.claim-index l.claims)
