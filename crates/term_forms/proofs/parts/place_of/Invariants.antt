use Rattle.std.proofs.Common.{map}
use Rattle.term_trees.specs.Term.{tree}
use Rattle.term_forms.specs.Form.{part_of}
use Rattle.term_forms.specs.Place.{PassedTo}
use Rattle.term_forms.proofs.parts.place_of.Given as goal

abbrev pub invariant-loop-at : goal.invariant-loop-at
invariant-loop-at l = PassedTo (map part_of l.parts) (tree l.atom) l.at
