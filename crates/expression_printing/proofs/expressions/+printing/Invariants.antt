use Rattle.std.proofs.Common.{◌+◌, ◌*◌, max, take}
use Rattle.slang_tree.specs.declared.expression.Expr.{size-Expr}
use Rattle.token_printing.specs.Gaps.{gap_seen}
use Rattle.expression_printing.specs.Sizes.{deepest}
use Rattle.expression_printing.specs.Printed.{Adds, behind_pieces}
use Rattle.expression_printing.proofs.expressions.+printing.Given as goal

abbrev pub decreases-add_expr : goal.decreases-add_expr
decreases-add_expr l = 8 * size-Expr l.expr.now

abbrev pub decreases-add_placed : goal.decreases-add_placed
decreases-add_placed l = 8 * size-Expr l.expr.now + 1

abbrev pub decreases-add_tight : goal.decreases-add_tight
decreases-add_tight l = 8 * size-Expr l.expr.now + 2

abbrev pub decreases-add_binary : goal.decreases-add_binary
decreases-add_binary l = 8 * max (size-Expr l.left.now) (size-Expr l.right.now) + 3

abbrev pub decreases-add_application : goal.decreases-add_application
decreases-add_application l = 8 * max (size-Expr l.head.now) (deepest l.arguments.now) + 4

abbrev pub decreases-add_update : goal.decreases-add_update
decreases-add_update l = 8 * max (size-Expr l.head.now) (max (size-Expr l.index.now) (size-Expr l.element.now)) + 3

abbrev pub decreases-add_field : goal.decreases-add_field
decreases-add_field l = 8 * size-Expr l.head.now + 3

abbrev pub decreases-add_sequence : goal.decreases-add_sequence
decreases-add_sequence l = 8 * deepest l.elements.now + 4

abbrev pub decreases-add_quantified : goal.decreases-add_quantified
decreases-add_quantified l = 8 * max (size-Expr l.low.now) (max (size-Expr l.high.now) (size-Expr l.body.now)) + 3

abbrev pub decreases-add_indices : goal.decreases-add_indices
decreases-add_indices l = 8 * max (size-Expr l.head.now) (size-Expr l.body.now) + 3

abbrev pub decreases-add_body : goal.decreases-add_body
decreases-add_body l = 8 * size-Expr l.body.now + 1

abbrev pub decreases-add_arguments : goal.decreases-add_arguments
decreases-add_arguments l = 8 * deepest l.exprs.now + 3

abbrev pub decreases-add_exprs : goal.decreases-add_exprs
decreases-add_exprs l = 8 * deepest l.exprs.now + 2

abbrev pub decreases-add_behind : goal.decreases-add_behind
decreases-add_behind l = 8 * deepest l.exprs.now + 1

-- the expressions so far were added
abbrev pub invariant-add_behind-loop-expr : goal.invariant-add_behind-loop-expr
invariant-add_behind-loop-expr l = Adds l.fn.text.items l.text.items (behind_pieces (gap_seen l.gap) l.light (take l.expr-index l.exprs))
