use Rattle.std.proofs.Common.{◌≡◌, ◌+◌, ◌++◌, ◌∙◌, [], ◌∷◌, map, take, sym, ap, append-nil}
use Rattle.std.proofs.lemmas.List.{map_more}
use Rattle.slang_tree.specs.ExprTree.{expr_tree, exprs_of}
use Rattle.type_faults.specs.FirstFault.{with_first}
use Rattle.height_rules.specs.Faults.{expr_too_high, exprs_too_high}
use Rattle.height_judging.proofs.Told.{part_more, exprs-join}
use Rattle.height_judging.proofs.expressions.expression_heights.Goals as goal

pub loop-expr-preserved : goal.loop-expr-preserved
loop-expr-preserved c =
    let i = c.loop-expr.expr-index in
    let xs = c.args.exprs.now in
    let before = map expr_tree (take i xs) in
    let more : map expr_tree (take (i + 1) xs) ≡ before ++ expr_tree c.expr-item.result ∷ [] =
    map_more expr_tree xs i c.expr-item.result c.loop-expr-test.true ∙ ap (λ x. before ++ expr_tree x ∷ []) (sym c.expr-item.is) in
    part_more c.args.told.now.found c.loop-expr.told.found c.expression_height.new.told.found (λ trees. exprs_too_high (exprs_of trees)) (exprs-join) before (map expr_tree (take (i + 1) xs)) (expr_tree c.expr-item.result) more
    c.loop-expr.invariant
    (c.expression_height.ensures ∙ ap (with_first c.loop-expr.told.found) (sym (append-nil (expr_too_high (expr_tree c.expr-item.result)))))
