use Rattle.std.proofs.Common.{sym, ◌∙◌, arith}
use Rattle.slang_values.specs.Tree.{parts}
use Rattle.term_trees.specs.Term.{tree}
use Rattle.term_walks.proofs.CompareLemmas.{tree_cmp-equal_heads, slice_cmp-more, slice_cmp-unequal}
use Rattle.term_walks.proofs.comparing.+compare.Goals as goal

pub compare-returns-in-Equal : goal.compare-returns-in-Equal
compare-returns-in-Equal t c =
    tree_cmp-equal_heads (tree c.args.a.now) (tree c.args.b.now) c.compare_parts.result (sym c.in-Equal.is ∙ c.compare_heads.ensures) c.compare_parts.ensures

pub compare_parts-returns-in_default : goal.compare_parts-returns-in_default
compare_parts-returns-in_default t c =
    slice_cmp-unequal (parts (tree c.args.a.now)) (parts (tree c.args.b.now)) c.loop-place.place (tree c.part.result.now) (tree c.part-in-loop-place.result.now) c.compare.result (omega arith) (omega arith) c.part.ensures.value c.part-in-loop-place.ensures.value c.compare.ensures c.in_default.not-Equal c.loop-place.invariant

pub compare_parts-loop-place-preserved : goal.compare_parts-loop-place-preserved
compare_parts-loop-place-preserved t c =
    slice_cmp-more (parts (tree c.args.a.now)) (parts (tree c.args.b.now)) c.loop-place.place (tree c.part.result.now) (tree c.part-in-loop-place.result.now) (omega arith) (omega arith) c.part.ensures.value c.part-in-loop-place.ensures.value (sym c.in-Equal.is ∙ c.compare.ensures) c.loop-place.invariant
