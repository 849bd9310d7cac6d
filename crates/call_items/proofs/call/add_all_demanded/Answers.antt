use Rattle.std.proofs.Common.{[], ◌∷◌, ◌++◌, map, take, length, ◌<◌, ◌+◌, sym, ap, ◌∙◌, arith}
use Rattle.std.proofs.lemmas.List.{map_more}
use Rattle.lk_programs.specs.declared.expression.Expr.{Expr}
use Rattle.lk_programs.specs.Expr.{typed_expr}
use Rattle.program_trees.specs.Programs.{TypedExpr, renamed_expr}
use Rattle.program_trees.specs.Variables.{Variable}
use Rattle.leg_items.specs.Drafts.{items_of}
use Rattle.leg_items.specs.Names.{kind_of}
use Rattle.call_items.proofs.CallLines.{demands-more}
use Rattle.call_items.proofs.call.add_all_demanded.Goals as goal

pub loop-expr-preserved : goal.loop-expr-preserved
loop-expr-preserved c =
    let exprs = c.args.exprs.now in
    let i = c.loop-expr.expr-index in
    let of : Expr → TypedExpr Variable = λ expr. renamed_expr (kind_of c.args.scope) (typed_expr expr) in
    let below : i < length exprs = omega (arith, c.loop-expr-test.true) in
    demands-more (map of (take i exprs)) (map of (take (i + 1) exprs)) (of c.expr-item.result) (items_of c.args.out.now) (items_of c.loop-expr.out) (items_of c.add_demanded.new.out)
    (map_more of exprs i c.expr-item.result below ∙ ap (λ x. map of (take i exprs) ++ of x ∷ []) (sym c.expr-item.is))
    c.loop-expr.invariant c.in_ok-add_demanded.ensures
