use Rattle.std.proofs.Common.{[], ◌∷◌, ◌++◌, map, take, length, ◌<◌, ◌+◌, sym, ap, ◌∙◌, arith}
use Rattle.std.proofs.lemmas.List.{length-map, length-take-le, map_more}
use Rattle.lk_programs.specs.declared.expression.Expr.{Expr}
use Rattle.lk_programs.specs.Expr.{typed_expr}
use Rattle.program_trees.specs.Programs.{TypedExpr, renamed_expr}
use Rattle.program_trees.specs.Variables.{Variable}
use Rattle.leg_items.specs.Drafts.{items_of}
use Rattle.leg_items.specs.Names.{kind_of}
use Rattle.call_items.proofs.CallLines.{parameters-more}
use Rattle.call_items.proofs.call.add_parameters.Goals as goal

pub loop-place-preserved : goal.loop-place-preserved
loop-place-preserved c =
    let exprs = c.args.arguments.now in
    let k = c.loop-place.place in
    let of : Expr → TypedExpr Variable = λ expr. renamed_expr (kind_of c.args.call.caller) (typed_expr expr) in
    let below : k < length exprs = omega (arith, c.loop-place-test.true) in
    parameters-more c.args.call.node.0 c.args.call.method c.in_ok-number.field-0 (map of (take k exprs)) (map of (take (k + 1) exprs)) (of c.index-arguments-place.result)
    (items_of c.args.out.now) (items_of c.loop-place.out) (items_of c.add_parameter.new.out)
    (map_more of exprs k c.index-arguments-place.result below ∙ ap (λ x. map of (take k exprs) ++ of x ∷ []) (sym c.index-arguments-place.is))
    (c.in_ok-number.ensures.1 ∙ sym (length-map (take k exprs) of ∙ length-take-le k exprs (omega (arith, below))))
    c.loop-place.invariant c.in_ok-add_parameter.ensures
