use Rattle.std.proofs.Common.{◌+◌, ◌*◌, take}
use Rattle.slang_values.specs.Tree.{parts}
use Rattle.term_trees.specs.declared.term.Term.{size-Term}
use Rattle.term_trees.specs.Term.{tree}
use Rattle.term_store.specs.Store.{IsStore, GainsAmong, AreTreesOf, subtrees}
use Rattle.term_store.proofs.store.TermStore.+add.Given as goal

abbrev pub decreases-add : goal.decreases-add
decreases-add l = 2 * size-Term l.term.now + 1

abbrev pub decreases-add_parts : goal.decreases-add_parts
decreases-add_parts l = 2 * size-Term l.term.now

abbrev pub invariant-add_parts-loop-place : goal.invariant-add_parts-loop-place
invariant-add_parts-loop-place l =
    AreTreesOf l.self l.ids (take l.place (parts (tree l.term))) × GainsAmong l.fn.self l.self (subtrees (tree l.term)) × IsStore l.self
