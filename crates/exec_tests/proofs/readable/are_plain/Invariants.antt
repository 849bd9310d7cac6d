use Rattle.std.proofs.Common.{take}
use Rattle.leg_sorts.specs.Sorts.{HaveSorts}
use Rattle.exec_tests.proofs.readable.are_plain.Given as goal

abbrev pub invariant-loop-ty : goal.invariant-loop-ty
invariant-loop-ty l = HaveSorts (take l.ty-index l.types)
