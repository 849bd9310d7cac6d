use Rattle.std.proofs.Common.{take, true}
use Rattle.term_trees.specs.Term.{trees}
use Rattle.lk_terms.specs.Closed.{TellAllClosed}
use Rattle.lk_terms.proofs.closed.+closed.Given as goal

abbrev pub invariant-are_closed_below-loop-term : goal.invariant-are_closed_below-loop-term
invariant-are_closed_below-loop-term l = TellAllClosed l.place (trees (take l.term-index l.terms)) true
