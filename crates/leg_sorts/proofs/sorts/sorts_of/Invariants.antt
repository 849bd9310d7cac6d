use Rattle.std.proofs.Common.{◌≡◌, map, take}
use Rattle.lk_claims.specs.Claim.{value_type}
use Rattle.term_trees.specs.Term.{sort_type}
use Rattle.leg_sorts.proofs.sorts.sorts_of.Given as goal

abbrev pub invariant-loop-ty : goal.invariant-loop-ty
invariant-loop-ty l = map sort_type l.sorts ≡ map value_type (take l.ty-index l.types)
