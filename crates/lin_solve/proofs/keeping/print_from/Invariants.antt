use Rattle.std.proofs.Common.{◌≡◌, fold, take}
use Rattle.lin_solve.specs.Print.{mixed, low}
use Rattle.lin_solve.proofs.keeping.print_from.Given as goal

abbrev pub invariant-loop-part : goal.invariant-loop-part
invariant-loop-part l = l.print ≡ fold (λ print part. mixed (mixed print part.var) (low part.times)) l.start (take l.part-index l.parts)
