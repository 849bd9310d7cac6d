use Rattle.std.proofs.Common.{◌≡◌, map, take}
use Rattle.store_forms.specs.Place.{multiplied}
use Rattle.store_forms.proofs.sums.multiples.Given as goal

abbrev pub invariant-loop-part : goal.invariant-loop-part
invariant-loop-part l = l.all.items ≡ map (multiplied l.by) (take l.part-index l.parts)
