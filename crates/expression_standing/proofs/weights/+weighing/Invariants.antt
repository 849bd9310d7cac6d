use Rattle.std.proofs.Common.{◌+◌, ◌*◌, ◌≡◌, min, max, take}
use Rattle.slang_tree.specs.declared.expression.Expr.{size-Expr}
use Rattle.print_expressions.specs.Hefts.{heavy}
use Rattle.expression_standing.specs.Hefts.{deepest, most_of}
use Rattle.expression_standing.proofs.weights.+weighing.Given as goal

abbrev pub decreases-heft_of : goal.decreases-heft_of
decreases-heft_of l = 8 * size-Expr l.expr.now

abbrev pub decreases-prefixed_heft : goal.decreases-prefixed_heft
decreases-prefixed_heft l = 8 * size-Expr l.operand.now + 1

abbrev pub decreases-binary_heft : goal.decreases-binary_heft
decreases-binary_heft l = 8 * max (size-Expr l.left.now) (size-Expr l.right.now) + 1

abbrev pub decreases-application_heft : goal.decreases-application_heft
decreases-application_heft l = 8 * max (size-Expr l.head.now) (deepest l.arguments.now) + 2

abbrev pub decreases-update_heft : goal.decreases-update_heft
decreases-update_heft l = 8 * max (size-Expr l.head.now) (max (size-Expr l.index.now) (size-Expr l.element.now)) + 1

abbrev pub decreases-field_heft : goal.decreases-field_heft
decreases-field_heft l = 8 * size-Expr l.head.now + 1

abbrev pub decreases-sequence_heft : goal.decreases-sequence_heft
decreases-sequence_heft l = 8 * deepest l.elements.now + 2

abbrev pub decreases-quantified_heft : goal.decreases-quantified_heft
decreases-quantified_heft l = 8 * max (size-Expr l.low.now) (max (size-Expr l.high.now) (size-Expr l.body.now)) + 1

abbrev pub decreases-indices_heft : goal.decreases-indices_heft
decreases-indices_heft l = 8 * max (size-Expr l.head.now) (size-Expr l.body.now) + 1

abbrev pub decreases-peak_of : goal.decreases-peak_of
decreases-peak_of l = 8 * deepest l.exprs.now + 1

-- the most that one of the expressions so far adds
abbrev pub invariant-peak_of-loop-expr : goal.invariant-peak_of-loop-expr
invariant-peak_of-loop-expr l = l.most ≡ min (most_of (take l.expr-index l.exprs)) heavy
