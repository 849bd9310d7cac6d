use Rattle.std.proofs.Common.{◌≡◌, ◌+◌, ◌++◌, ◌∙◌, [], ◌∷◌, map, take, nat_le, true, false, sym, ap, subst}
use Rattle.std.proofs.lemmas.List.{map_more}
use Rattle.slang_tree.specs.ExprTree.{expr_tree, exprs_of}
use Rattle.text_heights.specs.Heights.{text_height, greatest_height}
use Rattle.height_judging.proofs.Within.{not_within, more_within}
use Rattle.height_judging.proofs.expressions.+within.Goals as goal

pub are_within-returns-then-not-is_within : goal.are_within-returns-then-not-is_within
are_within-returns-then-not-is_within t c =
    not_within expr_tree c.args.exprs.now c.loop-expr.expr-index c.args.limit c.expr-item.result c.loop-expr-test.true
    (subst (λ x. false ≡ nat_le (text_height (expr_tree x)) c.args.limit) c.expr-item.is c.if-not-is_within.ensures)

pub are_within-loop-expr-preserved : goal.are_within-loop-expr-preserved
are_within-loop-expr-preserved t c =
    let i = c.loop-expr.expr-index in
    let xs = c.args.exprs.now in
    let before = map expr_tree (take i xs) in
    let more : map expr_tree (take (i + 1) xs) ≡ before ++ expr_tree c.expr-item.result ∷ [] =
    map_more expr_tree xs i c.expr-item.result c.loop-expr-test.true ∙ ap (λ x. before ++ expr_tree x ∷ []) (sym c.expr-item.is) in
    subst (λ trees. nat_le (greatest_height (exprs_of trees)) c.args.limit ≡ true) (sym more)
    (more_within before (expr_tree c.expr-item.result) c.args.limit c.loop-expr.invariant (sym c.if-not-is_within.ensures))
