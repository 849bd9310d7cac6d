use Rattle.store_forms.proofs.Summing.{AddedSoFar}
use Rattle.store_forms.proofs.sums.add_all.Given as goal

abbrev pub invariant-loop-count : goal.invariant-loop-count
invariant-loop-count l = AddedSoFar l.store l.fn.parts.items l.others l.parts.items l.count
