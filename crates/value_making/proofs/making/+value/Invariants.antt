use Rattle.std.proofs.Common.{◌≡◌, ◌+◌, ◌*◌, max, take, map}
use Rattle.slang_tree.specs.declared.expression.Expr.{size-Expr}
use Rattle.slang_tree.specs.ExprTree.{expr_tree, exprs_of}
use Rattle.type_rules.specs.Meanings.{Scope}
use Rattle.name_scopes.specs.Fits.{Fits}
use Rattle.expression_judging.specs.Sizes.{deepest}
use Rattle.lk_programs.specs.Expr.{typed_exprs}
use Rattle.typed_names.specs.Fields.{HasFields}
use Rattle.typed_names.specs.Nodes.{IsMade}
use Rattle.value_making.specs.Values.{values_in}
use Rattle.value_making.proofs.making.+value.Given as goal

abbrev pub decreases-value_of : goal.decreases-value_of
decreases-value_of l = 4 * size-Expr l.expr.now

abbrev pub decreases-prefixed : goal.decreases-prefixed
decreases-prefixed l = 4 * size-Expr l.operand.now + 1

abbrev pub decreases-field : goal.decreases-field
decreases-field l = 4 * size-Expr l.head.now + 2

abbrev pub decreases-connected : goal.decreases-connected
decreases-connected l = 4 * max (size-Expr l.left.now) (size-Expr l.right.now) + 1

abbrev pub decreases-updated : goal.decreases-updated
decreases-updated l = 4 * max (size-Expr l.head.now) (max (size-Expr l.index.now) (size-Expr l.element.now)) + 1

abbrev pub decreases-applied : goal.decreases-applied
decreases-applied l = 4 * max (size-Expr l.head.now) (deepest l.arguments.now) + 3

abbrev pub decreases-read : goal.decreases-read
decreases-read l = 4 * max (size-Expr l.head.now) (deepest l.arguments.now) + 2

abbrev pub decreases-record : goal.decreases-record
decreases-record l = 4 * deepest l.fields.now + 2

abbrev pub decreases-sequence : goal.decreases-sequence
decreases-sequence l = 4 * deepest l.elements.now + 2

abbrev pub decreases-values_of : goal.decreases-values_of
decreases-values_of l = 4 * deepest l.exprs.now + 1

-- The expressions so far were made, and the scope is the one before them.
abbrev pub invariant-values_of-loop-expr : goal.invariant-values_of-loop-expr
invariant-values_of-loop-expr l =
    ((at : Scope) → Fits l.fn.scope at → HasFields l.records at
    → IsMade l.fn.nodes l.nodes (typed_exprs l.values) (values_in l.numbers at (exprs_of (map expr_tree (take l.expr-index l.exprs)))))
    × (l.scope ≡ l.fn.scope)
