use Rattle.std.proofs.Common.{◌≡◌, ℕ, ◌<◌, get_or, false}
use Rattle.term_sorts.specs.Types.{record_types, types_of}
use Rattle.term_store.specs.Store.{tree_at}
use Rattle.whole_closing.specs.Literals.{is_unequal_itself}
use Rattle.store_leaves.proofs.apart.unequal_itself.Given as goal

abbrev pub invariant-loop-place : goal.invariant-loop-place
invariant-loop-place l = (k : ℕ) → k < l.place → is_unequal_itself (record_types l.records) (types_of l.symbols) (tree_at l.store (get_or l.literals k 0)) ≡
    false
