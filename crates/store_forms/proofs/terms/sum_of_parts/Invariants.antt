use Rattle.store_forms.proofs.Added.{SumSoFar}
use Rattle.store_forms.proofs.terms.sum_of_parts.Given as goal

abbrev pub invariant-loop-place : goal.invariant-loop-place
invariant-loop-place l = SumSoFar l.fn.store l.store l.parts l.place l.sum
