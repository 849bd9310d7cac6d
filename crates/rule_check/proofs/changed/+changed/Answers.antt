use Rattle.std.proofs.Common.{arith}
use Rattle.term_trees.specs.Term.{tree}
use Rattle.rule_check.proofs.Changing.{by_parts, counts_differ, part_differs, part_agrees, all_parts}
use Rattle.rule_check.proofs.changed.+changed.Goals as goal

pub are_parts_changed-returns-then-count-part_count : goal.are_parts_changed-returns-then-count-part_count
are_parts_changed-returns-then-count-part_count t c = λ f makes.
    counts_differ c.args.change f (tree c.args.term.now) (tree c.args.claim.now) makes c.requires (λ e. grind arith)

pub are_parts_changed-returns-then-not-is_changed : goal.are_parts_changed-returns-then-not-is_changed
are_parts_changed-returns-then-not-is_changed t c = λ f makes.
    part_differs c.args.change f (tree c.args.term.now) (tree c.args.claim.now) (tree c.part.result.now) (tree c.part-in-loop-place.result.now) c.loop-place.place
    c.inside.result c.is_changed.result (c.inside.ensures c.requires f makes) c.part.ensures.value c.part-in-loop-place.ensures.value c.is_changed.ensures (grind arith)

pub are_parts_changed-loop-place-preserved : goal.are_parts_changed-loop-place-preserved
are_parts_changed-loop-place-preserved t c = λ f makes.
    part_agrees c.args.change f (tree c.args.term.now) (tree c.args.claim.now) (tree c.part.result.now) (tree c.part-in-loop-place.result.now) c.loop-place.place
    c.inside.result c.is_changed.result (c.inside.ensures c.requires f makes) c.part.ensures.value c.part-in-loop-place.ensures.value c.is_changed.ensures (grind arith)
    (c.loop-place.invariant f makes)

pub are_parts_changed-returns : goal.are_parts_changed-returns
are_parts_changed-returns t c = λ f makes.
    all_parts c.args.change f (tree c.args.term.now) (tree c.args.claim.now) c.loop-place.place makes c.requires (grind arith) (grind arith)
    (c.loop-place.invariant f makes)

pub is_changed-returns-then-is_eq : goal.is_changed-returns-then-is_eq
is_changed-returns-then-is_eq t c = λ f makes.
    by_parts c.args.change f (tree c.args.term.now) (tree c.args.claim.now) c.are_parts_changed.result makes c.in-None.ensures (grind arith)
    (c.are_parts_changed.ensures f makes)
