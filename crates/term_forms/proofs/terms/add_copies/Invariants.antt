use Rattle.std.proofs.Common.{◌≡◌, ◌++◌, map, take}
use Rattle.term_forms.specs.Form.{part_of}
use Rattle.term_forms.proofs.terms.add_copies.Given as goal

abbrev pub invariant-loop-part : goal.invariant-loop-part
invariant-loop-part l = map part_of l.copies.items ≡ map part_of l.fn.copies.items ++ map part_of (take l.part-index l.parts)
