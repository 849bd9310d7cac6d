use Rattle.std.proofs.Common.{◌≡◌, map}
use Rattle.tree_forms.specs.Form.{multiplied}
use Rattle.term_forms.specs.Form.{part_of}
use Rattle.term_forms.proofs.SumLemmas.{partly}
use Rattle.term_forms.proofs.sums.multiply_all.Given as goal

abbrev pub invariant-loop-at : goal.invariant-loop-at
invariant-loop-at l = map part_of l.parts ≡ partly (multiplied l.by) l.at (map part_of l.initial.parts)
