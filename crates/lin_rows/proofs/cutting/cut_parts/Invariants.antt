use Rattle.std.proofs.Common.{◌≡◌, take, pos}
use Rattle.lin_rows.specs.Cut.{cut_parts}
use Rattle.lin_rows.proofs.cutting.cut_parts.Given as goal

abbrev pub invariant-loop-part : goal.invariant-loop-part
invariant-loop-part l = l.new.items ≡ cut_parts (pos l.by) (take l.part-index l.parts)
