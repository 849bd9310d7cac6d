use Rattle.std.proofs.Common.{◌+◌, ◌++◌, ◌∷◌, [], ap, map, refl, sym, take, ◌∙◌}
use Rattle.std.proofs.lemmas.List.{map_more}
use Rattle.slang_tree.specs.ExprTree.{expr_tree}
use Rattle.expression_forms.specs.Context.{context_seen}
use Rattle.noted_claims.proofs.Lists.{none_noted, noted_more}
use Rattle.noted_claims.proofs.noting.all_noted.Goals as goal

pub loop-expr-preserved : goal.loop-expr-preserved
loop-expr-preserved c =
    let i = c.loop-expr.expr-index in
    let exprs = c.args.exprs.now in (
      noted_more c.args.records.now c.args.numbers c.args.scope.now c.loop-expr.scope c.args.nodes.now c.loop-expr.nodes c.noted.new.nodes
          (context_seen c.args.context) (map expr_tree (take i exprs)) (map expr_tree (take (i + 1) exprs)) (expr_tree c.expr-item.result)
          c.loop-expr.made c.push.new.self c.in_ok-noted.field-0
          c.loop-expr.invariant.1
          (map_more expr_tree exprs i c.expr-item.result c.loop-expr-test.true ∙ ap (λ x. map expr_tree (take i exprs) ++ expr_tree x ∷ []) (sym c.expr-item.is))
          c.in_ok-push.ensures.ok c.loop-expr.invariant.0 c.in_ok-noted.ensures.noted,
      c.in_ok-noted.ensures.scope ∙ c.loop-expr.invariant.1,
    )

pub loop-expr-init : goal.loop-expr-init
loop-expr-init c =
    (none_noted c.args.records.now c.args.numbers c.args.scope.now c.args.nodes.now (context_seen c.args.context) c.new-made.result c.new-made.ensures, refl)
