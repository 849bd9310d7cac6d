use Rattle.std.proofs.Common.{◌≡◌, map, take, get_or}
use Rattle.store_canonical.proofs.terms.canonical_parts.Given as goal

abbrev pub invariant-loop-part : goal.invariant-loop-part
invariant-loop-part l = l.numbers.items ≡ map (λ k. get_or l.ids k 0) (take l.part-index l.parts)
