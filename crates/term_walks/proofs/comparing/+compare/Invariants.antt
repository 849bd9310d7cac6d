use Rattle.std.proofs.Common.{◌≡◌, ◌+◌, ◌*◌, drop}
use Rattle.std.specs.Cmp.Lexicographic.{slice_cmp}
use Rattle.slang_values.specs.Tree.{parts}
use Rattle.tree_forms.specs.Order.{tree_cmp}
use Rattle.term_trees.specs.declared.term.Term.{size-Term}
use Rattle.term_trees.specs.Term.{tree}
use Rattle.term_walks.proofs.comparing.+compare.Given as goal

abbrev pub decreases-compare : goal.decreases-compare
decreases-compare l = 2 * size-Term l.a.now + 1

abbrev pub decreases-compare_parts : goal.decreases-compare_parts
decreases-compare_parts l = 2 * size-Term l.a.now

abbrev pub invariant-compare_parts-loop-place : goal.invariant-compare_parts-loop-place
invariant-compare_parts-loop-place l =
    slice_cmp tree_cmp (parts (tree l.a)) (parts (tree l.b)) ≡ slice_cmp tree_cmp (drop l.place (parts (tree l.a))) (drop l.place (parts (tree l.b)))
