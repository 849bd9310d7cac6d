use Rattle.std.proofs.Common.{◌≡◌, map, take, true}
use Rattle.std.specs.List.{list_all}
use Rattle.lin_rows.specs.Inequality.{is_within}
use Rattle.closing.specs.Rows.{numbered}
use Rattle.store_atoms.specs.Views.{rows_at}
use Rattle.store_atoms.specs.Atoms.{atom_trees}
use Rattle.store_atoms.proofs.system.System.add_numbered_rows.Given as goal

abbrev pub invariant-loop-row : goal.invariant-loop-row
invariant-loop-row l = record {
  rows : l.rows.items ≡ map (numbered (atom_trees l.store l.self.atoms.items)) (rows_at l.store (take l.row-index l.self.rows.items));
  within : list_all is_within l.rows.items ≡ true;
}
