use Rattle.std.proofs.Common.{◌≡◌, ◌+◌, ◌*◌, ◌++◌, max, length, take}
use Rattle.std.specs.List.{AllByRecursion, flat_map}
use Rattle.lk_claims.specs.declared.claim.Claim.{size-Claim}
use Rattle.lk_claims.specs.Shape.{deepest}
use Rattle.key_rules.specs.Fits.{FitsClaim}
use Rattle.key_rules.specs.Writing.{number_bytes}
use Rattle.lk_claims.specs.Claim.{claim_tree}
use Rattle.leg_key.specs.Parts.{claim_key}
use Rattle.leg_key.proofs.claims.+claims.Given as goal

abbrev pub decreases-add_claim : goal.decreases-add_claim
decreases-add_claim l = 4 * size-Claim l.claim.now

abbrev pub decreases-add_unary : goal.decreases-add_unary
decreases-add_unary l = 4 * size-Claim l.a.now + 2

abbrev pub decreases-add_one : goal.decreases-add_one
decreases-add_one l = 4 * size-Claim l.a.now + 1

abbrev pub decreases-add_two : goal.decreases-add_two
decreases-add_two l = 4 * max (size-Claim l.a.now) (size-Claim l.b.now) + 2

abbrev pub decreases-add_three : goal.decreases-add_three
decreases-add_three l = 4 * max (max (size-Claim l.a.now) (size-Claim l.b.now)) (size-Claim l.c.now) + 3

abbrev pub decreases-add_sequence : goal.decreases-add_sequence
decreases-add_sequence l = 4 * deepest l.parts.now + 2

abbrev pub decreases-add_record : goal.decreases-add_record
decreases-add_record l = 4 * deepest l.parts.now + 2

abbrev pub decreases-add_parts : goal.decreases-add_parts
decreases-add_parts l = 4 * deepest l.parts.now + 1

abbrev pub invariant-add_parts-loop-part : goal.invariant-add_parts-loop-part
invariant-add_parts-loop-part l = record {
  written : l.key.items ≡ l.fn.key.items ++ (number_bytes (length l.parts) ++ flat_map claim_key (take l.part-index l.parts));
  fits : AllByRecursion (λ part. FitsClaim (claim_tree part)) (take l.part-index l.parts);
}
