use Rattle.std.proofs.Common.{◌≡◌, take}
use Rattle.closing.specs.Rows.{with_atoms, atoms_in}
use Rattle.store_atoms.specs.Views.{rows_at, RowsWithin}
use Rattle.store_atoms.specs.Atoms.{atom_trees, done_trees, AtomsWithin, AreOrdered}
use Rattle.store_atoms.proofs.system.System.add.Given as goal

abbrev pub invariant-loop-row : goal.invariant-loop-row
invariant-loop-row l = record {
  rows : rows_at l.store l.self.rows.items ≡ rows_at l.store l.initial.self.rows.items;
  rows_within : RowsWithin l.store l.self.rows.items;
  ordered : AreOrdered (atom_trees l.store l.self.atoms.items);
  within : AtomsWithin l.store l.self.atoms.items;
  trees : atom_trees l.store l.self.atoms.items ≡ with_atoms (atom_trees l.store l.initial.self.atoms.items) (atoms_in (rows_at l.store (take l.row-index l.row-items)));
  done : done_trees l.store l.self.atoms.items ≡ done_trees l.store l.initial.self.atoms.items;
}
