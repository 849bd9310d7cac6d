use Rattle.std.proofs.Common.{◌≡◌, None, map, reverse, vec_len}
use Rattle.std.specs.Option.{option_map}
use Rattle.tree_forms.specs.Form.{sum_of_parts}
use Rattle.term_trees.specs.Term.{tree}
use Rattle.term_forms.specs.Form.{part_of}
use Rattle.term_forms.proofs.terms.sum_of_parts.Given as goal

abbrev pub invariant-loop-part : goal.invariant-loop-part
invariant-loop-part l =
    sum_of_parts (option_map tree l.sum) (map part_of (reverse l.rest.items)) ≡ sum_of_parts None (map part_of l.fn.parts.items)

abbrev pub decreases-loop-part : goal.decreases-loop-part
decreases-loop-part l = vec_len l.rest
