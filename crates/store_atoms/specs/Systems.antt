-- Rows, and their atoms in step with them.
use Rattle.std.specs.Prelude.{◌≡◌, List, ◌++◌}
use Rattle.term_nodes.specs.declared.node.Node.{Node}
use Rattle.closing.specs.Rows.{AtomRow, ordered_atoms}
use Rattle.store_atoms.specs.declared.system.System.{System}
use Rattle.store_atoms.specs.Views.{rows_at, RowsWithin}
use Rattle.store_atoms.specs.Atoms.{atom_trees, done_trees, AtomsWithin}

-- the atoms are those of the rows, and all are in the store
pub record IsInStep (store : List Node) (s : System) : Type 0 where
  pub atoms : atom_trees store s.atoms.items ≡ ordered_atoms (rows_at store s.rows.items)
  pub atoms_within : AtomsWithin store s.atoms.items
  pub rows_within : RowsWithin store s.rows.items

-- with more rows, of which no atom is done
pub record HasMore (store : List Node) (old new : System) (more : List AtomRow) : Type 0 where
  pub rows : rows_at store new.rows.items ≡ rows_at store old.rows.items ++ more
  pub in_step : IsInStep store new
  pub done : done_trees store new.atoms.items ≡ done_trees store old.atoms.items
