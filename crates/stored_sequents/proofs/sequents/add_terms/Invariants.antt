use Rattle.std.proofs.Common.{take, map}
use Rattle.term_trees.specs.Term.{tree}
use Rattle.term_store.specs.Store.{Grows, AreTreesOf}
use Rattle.stored_sequents.proofs.sequents.add_terms.Given as goal

abbrev pub invariant-loop-place : goal.invariant-loop-place
invariant-loop-place l = AreTreesOf l.store l.ids (take l.place (map tree l.terms)) × Grows l.fn.store l.store
