use Rattle.std.proofs.Common.{◌≡◌, map, take, true}
use Rattle.closing.specs.Literals.{are_all_narrow}
use Rattle.term_store.specs.Store.{tree_at}
use Rattle.store_leaves.proofs.leaf.are_narrow.Given as goal

abbrev pub invariant-loop-at : goal.invariant-loop-at
invariant-loop-at l = are_all_narrow (map (tree_at l.store) (take l.at l.ids)) ≡ true
