use Rattle.std.proofs.Common.{◌≡◌, ◌+◌, ◌*◌, drop}
use Rattle.lk_claims.specs.Claim.{claim_trees}
use Rattle.claim_limits.specs.Limits.{all_within}
use Rattle.claim_limits.proofs.claims.+claims.Given as goal

abbrev pub decreases-is_within : goal.decreases-is_within
decreases-is_within l = 3 * l.height

abbrev pub decreases-is_inside : goal.decreases-is_inside
decreases-is_inside l = 3 * l.inside + 2

abbrev pub decreases-are_within : goal.decreases-are_within
decreases-are_within l = 3 * l.height + 1

abbrev pub invariant-are_within-loop-part : goal.invariant-are_within-loop-part
invariant-are_within-loop-part l =
    all_within l.height l.bound (claim_trees l.parts) ≡ all_within l.height l.bound (claim_trees (drop l.part-index l.parts))
