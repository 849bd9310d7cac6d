use Rattle.std.proofs.Common.{map}
use Rattle.term_store.specs.Store.{tree_at}
use Rattle.term_forms.specs.Place.{PassedTo}
use Rattle.store_forms.specs.Form.{part_at}
use Rattle.store_forms.proofs.parts.place_of.Given as goal

abbrev pub invariant-loop-at : goal.invariant-loop-at
invariant-loop-at l = PassedTo (map (part_at l.store) l.parts) (tree_at l.store l.atom) l.at
