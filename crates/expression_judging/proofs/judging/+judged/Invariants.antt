use Rattle.std.proofs.Common.{◌≡◌, ◌+◌, ◌*◌, max, take, map}
use Rattle.slang_tree.specs.declared.expression.Expr.{size-Expr}
use Rattle.slang_tree.specs.ExprTree.{expr_tree, exprs_of}
use Rattle.type_rules.specs.Meanings.{Scope}
use Rattle.type_rules.specs.Expressions.{judged_each}
use Rattle.text_types.specs.Found.{AreJudged}
use Rattle.name_scopes.specs.Fits.{Fits}
use Rattle.expression_forms.specs.Context.{context_seen}
use Rattle.expression_judging.specs.Sizes.{deepest}
use Rattle.expression_judging.proofs.judging.+judged.Given as goal

abbrev pub decreases-judged : goal.decreases-judged
decreases-judged l = 4 * size-Expr l.expr.now

abbrev pub decreases-judged_binary : goal.decreases-judged_binary
decreases-judged_binary l = 4 * max (size-Expr l.left.now) (size-Expr l.right.now) + 1

abbrev pub decreases-judged_update : goal.decreases-judged_update
decreases-judged_update l = 4 * max (size-Expr l.head.now) (max (size-Expr l.index.now) (size-Expr l.element.now)) + 1

abbrev pub decreases-judged_application : goal.decreases-judged_application
decreases-judged_application l = 4 * max (size-Expr l.head.now) (deepest l.arguments.now) + 2

abbrev pub decreases-judged_sequence : goal.decreases-judged_sequence
decreases-judged_sequence l = 4 * deepest l.parts.now + 2

abbrev pub decreases-judged_quantified : goal.decreases-judged_quantified
decreases-judged_quantified l = 4 * max (size-Expr l.low.now) (max (size-Expr l.high.now) (size-Expr l.body.now)) + 2

abbrev pub decreases-judged_indices : goal.decreases-judged_indices
decreases-judged_indices l = 4 * max (size-Expr l.head.now) (size-Expr l.body.now) + 2

abbrev pub decreases-judged_under : goal.decreases-judged_under
decreases-judged_under l = 4 * size-Expr l.body.now + 1

abbrev pub decreases-judged_each : goal.decreases-judged_each
decreases-judged_each l = 4 * deepest l.exprs.now + 1

-- The expressions so far were judged, and the scope is the one before them.
abbrev pub invariant-judged_each-loop-expr : goal.invariant-judged_each-loop-expr
invariant-judged_each-loop-expr l =
    ((at : Scope) → Fits l.fn.scope at → AreJudged l.fn.told.found l.told.found l.founds
    (judged_each at (context_seen l.context) (exprs_of (map expr_tree (take l.expr-index l.exprs)))))
    × (l.scope ≡ l.fn.scope)
