use Rattle.std.proofs.Common.{◌≡◌, drop}
use Rattle.closing.specs.Rows.{first_where, is_pending}
use Rattle.store_atoms.specs.Atoms.{atom_trees, done_trees}
use Rattle.store_rows.proofs.complete.next.Given as goal

abbrev pub invariant-loop-place : goal.invariant-loop-place
invariant-loop-place l =
    first_where (is_pending (done_trees l.store l.system.atoms.items)) (atom_trees l.store l.system.atoms.items)
    ≡ first_where (is_pending (done_trees l.store l.system.atoms.items)) (drop l.place (atom_trees l.store l.system.atoms.items))
