use Rattle.std.proofs.Common.{◌≡◌, negsuc, map, take}
use Rattle.store_forms.specs.Place.{multiplied}
use Rattle.store_atoms.proofs.row.negative_parts.Given as goal

abbrev pub invariant-loop-part : goal.invariant-loop-part
invariant-loop-part l = l.all.items ≡ map (multiplied (negsuc 0)) (take l.part-index l.parts)
