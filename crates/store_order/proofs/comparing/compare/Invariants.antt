use Rattle.std.proofs.Common.{◌≡◌, ◌<◌, length}
use Rattle.tree_forms.specs.Order.{tree_cmp}
use Rattle.term_store.specs.Store.{tree_at}
use Rattle.store_order.proofs.comparing.compare.Given as goal

abbrev pub invariant-down : goal.invariant-down
invariant-down l = record {
  first : l.left < length l.store;
  second : l.right < length l.store;
  same : tree_cmp (tree_at l.store l.left) (tree_at l.store l.right) ≡ tree_cmp (tree_at l.store l.fn.a) (tree_at l.store l.fn.b);
}

abbrev pub decreases-down : goal.decreases-down
decreases-down l = l.left
