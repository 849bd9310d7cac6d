use Rattle.lk_claims.specs.declared.ty.Ty.{size-Ty}
use Rattle.leg_sorts.proofs.sorts.+sort_of.Given as goal

abbrev pub decreases-sort_of : goal.decreases-sort_of
decreases-sort_of l = size-Ty l.ty.now
