use Rattle.std.proofs.Common.{map, take}
use Rattle.term_sorts.specs.Types.{types_of, record_types}
use Rattle.term_store.specs.Store.{tree_at}
use Rattle.closing.specs.Rows as row_specs
use Rattle.store_atoms.specs.Views.{AreRows}
use Rattle.store_rows.proofs.literals.rows_of_literals.Given as goal

abbrev pub invariant-loop-at : goal.invariant-loop-at
invariant-loop-at l =
    AreRows l.store l.rows.items (row_specs.rows_of_literals (record_types l.records) (types_of l.symbols) (map (tree_at l.store) (take l.at l.literals)))
