use Rattle.std.proofs.Common.{◌≡◌, ◌+◌, ◌*◌, take}
use Rattle.slang_tree.specs.declared.expression.Expr.{size-Expr}
use Rattle.expression_forms.specs.Context.{context_seen}
use Rattle.expression_judging.specs.Sizes.{deepest}
use Rattle.claim_making.specs.Made.{AreClaims}
use Rattle.claim_making.proofs.making.+claims.Given as goal

abbrev pub decreases-made_claim : goal.decreases-made_claim
decreases-made_claim l = 3 * size-Expr l.expr.now

abbrev pub decreases-made_under : goal.decreases-made_under
decreases-made_under l = 3 * size-Expr l.body.now + 1

abbrev pub decreases-made_claims : goal.decreases-made_claims
decreases-made_claims l = 3 * deepest l.exprs.now + 1

-- The claims so far are made, and the scope is the one before them.
abbrev pub invariant-made_claims-loop-expr : goal.invariant-made_claims-loop-expr
invariant-made_claims-loop-expr l =
    AreClaims l.records l.numbers l.fn.scope (context_seen l.context) (take l.expr-index l.exprs) l.claims × (l.scope ≡ l.fn.scope)
