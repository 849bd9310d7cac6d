use Rattle.std.proofs.Common.{◌-◌}
use Rattle.term_store.specs.Store.{tree_at}
use Rattle.store_atoms.proofs.Order.{IsNarrowedTo}
use Rattle.store_atoms.proofs.atoms.find.Given as goal

abbrev pub invariant-search : goal.invariant-search
invariant-search l = IsNarrowedTo l.store (tree_at l.store l.id) l.atoms l.low l.high

abbrev pub decreases-search : goal.decreases-search
decreases-search l = l.high - l.low
