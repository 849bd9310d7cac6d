use Rattle.std.proofs.Common.{◌≡◌, ◌≤◌, map, drop, length}
use Rattle.lk_claims.specs.Claim.{claim_tree}
use Rattle.leg_items.specs.Demands.{implied_by}
use Rattle.leg_items.proofs.demands.implied.Given as goal

abbrev pub invariant-conditions : goal.invariant-conditions
invariant-conditions l = (l.at ≤ length l.conditions) × (claim_tree l.claim ≡ implied_by (map claim_tree (drop l.at l.conditions)) (claim_tree l.fn.shown))

abbrev pub decreases-conditions : goal.decreases-conditions
decreases-conditions l = l.at
