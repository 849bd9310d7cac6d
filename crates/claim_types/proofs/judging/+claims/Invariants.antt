use Rattle.std.proofs.Common.{◌≡◌, ◌+◌, ◌*◌, max, map, drop, length}
use Rattle.lk_claims.specs.declared.claim.Claim.{size-Claim}
use Rattle.lk_claims.specs.Shape.{deepest}
use Rattle.lk_claims.specs.Claim.{claim_trees, value_type}
use Rattle.claim_types.specs.Judged.{all_judged, each_judged}
use Rattle.claim_types.specs.Views.{records_of, scope_names}
use Rattle.claim_types.proofs.judging.+claims.Given as goal

abbrev pub decreases-type_of : goal.decreases-type_of
decreases-type_of l = 4 * size-Claim l.claim.now

abbrev pub decreases-of_update : goal.decreases-of_update
decreases-of_update l = 4 * max (size-Claim l.a.now) (max (size-Claim l.i.now) (size-Claim l.x.now)) + 1

abbrev pub decreases-of_quantified : goal.decreases-of_quantified
decreases-of_quantified l = 4 * max (size-Claim l.low.now) (max (size-Claim l.high.now) (size-Claim l.body.now)) + 1

abbrev pub decreases-of_sequence : goal.decreases-of_sequence
decreases-of_sequence l = 4 * deepest l.parts.now + 2

abbrev pub decreases-have_type : goal.decreases-have_type
decreases-have_type l = 4 * deepest l.parts.now + 1

abbrev pub decreases-of_record : goal.decreases-of_record
decreases-of_record l = 4 * deepest l.parts.now + 2

abbrev pub decreases-have_types : goal.decreases-have_types
decreases-have_types l = 4 * deepest l.parts.now + 1

abbrev pub invariant-have_type-loop-part : goal.invariant-have_type-loop-part
invariant-have_type-loop-part l =
    each_judged (records_of l.records) (scope_names l.scope) (claim_trees l.parts) (value_type l.ty)
    ≡ each_judged (records_of l.records) (scope_names l.scope) (claim_trees (drop l.part-index l.parts)) (value_type l.ty)

abbrev pub invariant-have_types-loop-index : goal.invariant-have_types-loop-index
invariant-have_types-loop-index l =
    all_judged (records_of l.records) (scope_names l.scope) (claim_trees l.parts) (map value_type l.types)
    ≡ all_judged (records_of l.records) (scope_names l.scope) (claim_trees (drop l.index l.parts)) (map value_type (drop l.index l.types))
