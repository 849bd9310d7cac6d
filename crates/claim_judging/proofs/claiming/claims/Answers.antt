use Rattle.std.proofs.Common.{[], ◌∷◌, ◌++◌, ◌+◌, ◌≡◌, ◌∙◌, ap, map, subst, sym, take}
use Rattle.std.proofs.lemmas.List.{map_more}
use Rattle.slang_tree.specs.ExprTree.{expr_tree}
use Rattle.name_scopes.specs.Fits.{Fits}
use Rattle.expression_forms.specs.Context.{context_seen}
use Rattle.claim_judging.proofs.ClaimFaults.{claims_more}
use Rattle.claim_judging.proofs.claiming.claims.Goals as goal

pub loop-expr-preserved : goal.loop-expr-preserved
loop-expr-preserved c =
    let i = c.loop-expr.expr-index in
    let exprs = c.args.exprs.now in
    let before = map expr_tree (take i exprs) in
    let more : map expr_tree (take (i + 1) exprs) ≡ before ++ expr_tree c.expr-item.result ∷ [] =
    map_more expr_tree exprs i c.expr-item.result c.loop-expr-test.true ∙ ap (λ x. before ++ expr_tree x ∷ []) (sym c.expr-item.is) in (
      λ at fits.
          claims_more c.args.told.now.found c.loop-expr.told.found c.claim.new.told.found at (context_seen c.args.context) before (map expr_tree (take (i + 1) exprs)) (expr_tree c.expr-item.result) more (c.loop-expr.invariant.0 at fits)
          (c.in_ok-claim.ensures.told at (subst (λ s. Fits s at) (sym c.loop-expr.invariant.1) fits)),
      c.in_ok-claim.ensures.scope ∙ c.loop-expr.invariant.1,
    )
