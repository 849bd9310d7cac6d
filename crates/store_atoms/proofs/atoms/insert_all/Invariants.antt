use Rattle.std.proofs.Common.{◌≡◌, map, take}
use Rattle.closing.specs.Rows.{with_atoms}
use Rattle.store_forms.specs.Form.{part_at}
use Rattle.store_atoms.specs.Atoms.{atom_trees, done_trees, AtomsWithin, AreOrdered}
use Rattle.store_atoms.proofs.atoms.insert_all.Given as goal

abbrev pub invariant-loop-at : goal.invariant-loop-at
invariant-loop-at l = record {
  ordered : AreOrdered (atom_trees l.store l.atoms.items);
  within : AtomsWithin l.store l.atoms.items;
  trees : atom_trees l.store l.atoms.items ≡ with_atoms (atom_trees l.store l.initial.atoms.items) (map (λ p. p.atom) (map (part_at l.store) (take l.at l.parts)));
  done : done_trees l.store l.atoms.items ≡ done_trees l.store l.initial.atoms.items;
}
