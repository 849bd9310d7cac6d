use Rattle.std.proofs.Common.{◌≡◌, ◌+◌, ◌*◌, max, map, drop}
use Rattle.lk_claims.specs.declared.claim.Claim.{size-Claim}
use Rattle.lk_claims.specs.Shape.{deepest}
use Rattle.lk_claims.specs.Claim.{claim_trees, value_type}
use Rattle.leg_appearances.specs.Seen.{all_seen, parts_appearing}
use Rattle.leg_appearances.proofs.claims.+claims.Given as goal

abbrev pub decreases-with_claim : goal.decreases-with_claim
decreases-with_claim l = 4 * size-Claim l.claim.now

abbrev pub decreases-with_two : goal.decreases-with_two
decreases-with_two l = 4 * max (size-Claim l.a.now) (size-Claim l.b.now) + 1

abbrev pub decreases-with_three : goal.decreases-with_three
decreases-with_three l = 4 * max (size-Claim l.a.now) (max (size-Claim l.b.now) (size-Claim l.c.now)) + 2

abbrev pub decreases-with_sequence : goal.decreases-with_sequence
decreases-with_sequence l = 4 * deepest l.parts.now + 2

abbrev pub decreases-with_fields : goal.decreases-with_fields
decreases-with_fields l = 4 * deepest l.parts.now + 2

abbrev pub decreases-with_parts : goal.decreases-with_parts
decreases-with_parts l = 4 * deepest l.parts.now + 1

-- The parts so far have appeared.
abbrev pub invariant-with_parts-loop-part : goal.invariant-with_parts-loop-part
invariant-with_parts-loop-part l =
    all_seen l.table (map value_type l.vars) l.fn.seen (parts_appearing (claim_trees l.parts))
    ≡ all_seen l.table (map value_type l.vars) l.so_far (parts_appearing (claim_trees (drop l.part-index l.parts)))
