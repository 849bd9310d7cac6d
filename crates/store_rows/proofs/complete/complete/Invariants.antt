use Rattle.std.proofs.Common.{◌-◌, length}
use Rattle.term_store.specs.Store.{Grows}
use Rattle.closing.specs.Rows.{atom_nodes}
use Rattle.store_entries.specs.Entries.{AreEntries}
use Rattle.store_atoms.specs.Views.{rows_at}
use Rattle.store_atoms.specs.Atoms.{done_trees}
use Rattle.store_atoms.specs.Systems.{IsInStep}
use Rattle.store_rows.specs.Complete.{HaveNarrowAtoms}
use Rattle.store_rows.proofs.Steps.{IsOnTheWay}
use Rattle.store_rows.proofs.complete.complete.Given as goal

abbrev pub invariant-atoms : goal.invariant-atoms
invariant-atoms l = record {
  in_step : IsInStep l.store l.system;
  narrow : HaveNarrowAtoms (rows_at l.store l.system.rows.items);
  way : IsOnTheWay l.store (rows_at l.initial.store l.initial.system.rows.items) l.system;
  entries : AreEntries l.store l.forms.entries.items;
  grows : Grows l.initial.store l.store;
}

abbrev pub decreases-atoms : goal.decreases-atoms
decreases-atoms l = atom_nodes (rows_at l.initial.store l.initial.system.rows.items) - length (done_trees l.store l.system.atoms.items)
