use Rattle.std.proofs.Common.{◌≡◌, ◌+◌, ◌*◌, max, take, map}
use Rattle.lk_claims.specs.Claim.{claim_tree}
use Rattle.lk_programs.specs.declared.expression.Expr.{size-Expr}
use Rattle.lk_programs.specs.Expr.{typed_expr}
use Rattle.lk_programs.specs.Shape.{deepest}
use Rattle.program_trees.specs.Programs.{claim_of}
use Rattle.leg_items.proofs.claims.+claim.Given as goal

abbrev pub decreases-claim_of : goal.decreases-claim_of
decreases-claim_of l = 2 * size-Expr l.expr.now

abbrev pub decreases-claim_of_operator : goal.decreases-claim_of_operator
decreases-claim_of_operator l = 2 * max (size-Expr l.a.now) (size-Expr l.b.now) + 1

abbrev pub decreases-claim_of_read : goal.decreases-claim_of_read
decreases-claim_of_read l = 2 * max (size-Expr l.a.now) (size-Expr l.i.now) + 1

abbrev pub decreases-claim_of_update : goal.decreases-claim_of_update
decreases-claim_of_update l = 2 * max (size-Expr l.a.now) (max (size-Expr l.i.now) (size-Expr l.x.now)) + 1

abbrev pub decreases-claims_of : goal.decreases-claims_of
decreases-claims_of l = 2 * deepest l.exprs.now + 1

abbrev pub invariant-claims_of-loop-expr : goal.invariant-claims_of-loop-expr
invariant-claims_of-loop-expr l = map claim_tree l.claims ≡ map (λ expr. claim_of (typed_expr expr)) (take l.expr-index l.exprs)
