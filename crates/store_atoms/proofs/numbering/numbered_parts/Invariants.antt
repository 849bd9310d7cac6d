use Rattle.std.proofs.Common.{◌≡◌, map, take}
use Rattle.closing.specs.Rows as row_specs
use Rattle.store_forms.specs.Form.{part_at}
use Rattle.store_atoms.specs.Atoms.{atom_trees}
use Rattle.store_atoms.proofs.numbering.numbered_parts.Given as goal

abbrev pub invariant-loop-at : goal.invariant-loop-at
invariant-loop-at l = l.numbered.items ≡ row_specs.numbered_parts (atom_trees l.store l.atoms) (map (part_at l.store) (take l.at l.parts))
