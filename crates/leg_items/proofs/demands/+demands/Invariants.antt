use Rattle.std.proofs.Common.{◌≡◌, ◌+◌, ◌*◌, ◌++◌, max, take, map}
use Rattle.lk_claims.specs.Claim.{claim_tree}
use Rattle.lk_programs.specs.declared.expression.Expr.{size-Expr}
use Rattle.lk_programs.specs.Expr.{typed_expr}
use Rattle.lk_programs.specs.Shape.{deepest}
use Rattle.leg_rules.specs.Checks.{argument_demands}
use Rattle.leg_items.specs.Drafts.{items_of}
use Rattle.leg_items.specs.Demands.{demanded_under}
use Rattle.leg_items.proofs.demands.+demands.Given as goal

abbrev pub decreases-add_demands : goal.decreases-add_demands
decreases-add_demands l = 3 * size-Expr l.expr.now

abbrev pub decreases-add_right_demands : goal.decreases-add_right_demands
decreases-add_right_demands l = 3 * max (size-Expr l.left.now) (size-Expr l.right.now) + 2

abbrev pub decreases-add_demands_within : goal.decreases-add_demands_within
decreases-add_demands_within l = 3 * size-Expr l.expr.now + 1

abbrev pub decreases-add_all_demands : goal.decreases-add_all_demands
decreases-add_all_demands l = 3 * deepest l.exprs.now + 1

abbrev pub invariant-add_all_demands-loop-expr : goal.invariant-add_all_demands-loop-expr
invariant-add_all_demands-loop-expr l =
    (items_of l.out ≡ items_of l.fn.out ++ demanded_under l.scope (map claim_tree l.fn.conditions) (argument_demands (map typed_expr (take l.expr-index l.exprs))))
    × (l.conditions ≡ l.fn.conditions)
