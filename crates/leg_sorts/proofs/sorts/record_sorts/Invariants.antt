use Rattle.std.proofs.Common.{◌≡◌, map, take}
use Rattle.lk_claims.specs.Claim.{value_type}
use Rattle.term_trees.specs.Term.{sort_type}
use Rattle.leg_sorts.proofs.sorts.record_sorts.Given as goal

abbrev pub invariant-loop-fields : goal.invariant-loop-fields
invariant-loop-fields l = map (map sort_type) l.sorts ≡ map (map value_type) (take l.fields-index l.records)
