use Rattle.std.proofs.Common.{◌≡◌, ◌+◌, ◌*◌, ◌++◌, map, take}
use Rattle.term_trees.specs.Term.{tree}
use Rattle.term_store.specs.Store.{tree_at}
use Rattle.stored_trees.proofs.trees.+build.Given as goal

abbrev pub decreases-term_at : goal.decreases-term_at
decreases-term_at l = 3 * l.id + 2

abbrev pub decreases-terms_below : goal.decreases-terms_below
decreases-terms_below l = 3 * l.bound + 1

abbrev pub decreases-add_terms : goal.decreases-add_terms
decreases-add_terms l = 3 * l.bound

abbrev pub invariant-add_terms-loop-id : goal.invariant-add_terms-loop-id
invariant-add_terms-loop-id l = map tree l.terms ≡ map tree l.fn.terms ++ map (tree_at l.store) (take l.id-index l.ids)
