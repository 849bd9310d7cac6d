use Rattle.store_linear.proofs.Alone.{TermsSoFar}
use Rattle.store_linear.proofs.atoms.terms_of.Given as goal

abbrev pub invariant-loop-at : goal.invariant-loop-at
invariant-loop-at l = TermsSoFar l.fn.store l.store l.ids l.at l.terms.items
