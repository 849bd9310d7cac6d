use Rattle.std.proofs.Common.{◌≡◌, [], ◌∷◌, ◌++◌, map, take, length, ◌<◌, ◌+◌, refl, sym, ap, ◌∙◌, arith}
use Rattle.std.proofs.lemmas.List.{map_more}
use Rattle.std.proofs.lemmas.Result.{on_ok_weaker}
use Rattle.slang_values.specs.Tree.{sequence_of, record_of, unary}
use Rattle.slang_values.specs.declared.operators.Unary.{Unary}
use Rattle.program_trees.specs.Operators.{where_true, where_false}
use Rattle.program_trees.specs.Programs.{claim_of}
use Rattle.lk_claims.specs.Claim.{claim_tree, value_type}
use Rattle.lk_programs.specs.Expr.{typed_expr}
use Rattle.leg_rules.specs.Checks.{argument_demands, demands}
use Rattle.leg_items.specs.Drafts.{items_of}
use Rattle.leg_items.specs.Demands.{demanded_under, operator_evaluated, range_demand}
use Rattle.leg_items.proofs.DemandLines.{two, three, four, right_under, demands_of_list, one_more}
use Rattle.leg_items.proofs.demands.+demands.Goals as goal

pub add_all_demands-loop-expr-preserved : goal.add_all_demands-loop-expr-preserved
add_all_demands-loop-expr-preserved t c =
    let exprs = c.args.exprs.now in
    let i = c.loop-expr.expr-index in
    let parts = map typed_expr (take i exprs) in
    let e = typed_expr c.expr-item.result in
    let below : i < length exprs = omega (arith, c.loop-expr-test.true) in
    let all : map typed_expr (take (i + 1) exprs) ≡ parts ++ e ∷ [] =
    map_more typed_expr exprs i c.expr-item.result below ∙ ap (λ x. parts ++ typed_expr x ∷ []) (sym c.expr-item.is) in (
      two c.args.scope (map claim_tree c.args.conditions.now) (argument_demands parts) (demands e) (argument_demands (map typed_expr (take (i + 1) exprs)))
          (items_of c.args.out.now) (items_of c.loop-expr.out) (items_of c.add_demands.new.out)
          (one_more parts e (map typed_expr (take (i + 1) exprs)) all)
          c.loop-expr.invariant.0
          (c.in_ok-add_demands.ensures.items
          ∙ ap (λ cs. items_of c.loop-expr.out ++ demanded_under c.args.scope (map claim_tree cs) (demands e)) c.loop-expr.invariant.1),
      c.in_ok-add_demands.ensures.conditions ∙ c.loop-expr.invariant.1,
    )

pub add_demands-returns-in_ok-add_demands-in-Read-2-clause-items : goal.add_demands-returns-in_ok-add_demands-in-Read-2-clause-items
add_demands-returns-in_ok-add_demands-in-Read-2-clause-items t c =
    let a = typed_expr c.in-Read.a.now in
    let i = typed_expr c.in-Read.i.now in
    let range = range_demand c.in-Read.node.0 (claim_of a) (claim_of i) ∷ [] in
    let first = items_of c.add_demands-in-Read.new.out in
    let second = items_of c.add_demands-in-Read-2.new.out in
    let same : c.add_demands-in-Read.new.conditions ≡ c.args.conditions.now = c.in_ok-add_demands-in-Read.ensures.conditions in
    let still : c.add_demands-in-Read-2.new.conditions ≡ c.args.conditions.now = c.in_ok-add_demands-in-Read-2.ensures.conditions ∙ same in
    on_ok_weaker c.add_range.result
    (λ h. three c.args.scope (map claim_tree c.args.conditions.now) (demands a) (demands i) range (demands (typed_expr c.args.expr.now))
    (items_of c.args.out.now) first second (items_of c.add_range.new.out)
    (ap demands c.in-Read.ensures.0)
    c.in_ok-add_demands-in-Read.ensures.items
    (c.in_ok-add_demands-in-Read-2.ensures.items ∙ ap (λ cs. first ++ demanded_under c.args.scope (map claim_tree cs) (demands i)) same)
    (h ∙ ap (λ cs. second ++ demanded_under c.args.scope (map claim_tree cs) range) (c.as_slice-in-Read.ensures ∙ still)))
    c.add_range.ensures

pub add_demands-returns-in_ok-add_demands-in-Update-3-clause-items : goal.add_demands-returns-in_ok-add_demands-in-Update-3-clause-items
add_demands-returns-in_ok-add_demands-in-Update-3-clause-items t c =
    let a = typed_expr c.in-Update.a.now in
    let i = typed_expr c.in-Update.i.now in
    let x = typed_expr c.in-Update.x.now in
    let range = range_demand c.in-Update.node.0 (claim_of a) (claim_of i) ∷ [] in
    let first = items_of c.add_demands-in-Update.new.out in
    let second = items_of c.add_demands-in-Update-2.new.out in
    let third = items_of c.add_demands-in-Update-3.new.out in
    let same : c.add_demands-in-Update.new.conditions ≡ c.args.conditions.now = c.in_ok-add_demands-in-Update.ensures.conditions in
    let still : c.add_demands-in-Update-2.new.conditions ≡ c.args.conditions.now = c.in_ok-add_demands-in-Update-2.ensures.conditions ∙ same in
    let yet : c.add_demands-in-Update-3.new.conditions ≡ c.args.conditions.now = c.in_ok-add_demands-in-Update-3.ensures.conditions ∙ still in
    on_ok_weaker c.add_range-in-Update.result
    (λ h. four c.args.scope (map claim_tree c.args.conditions.now) (demands a) (demands i) (demands x) range (demands (typed_expr c.args.expr.now))
    (items_of c.args.out.now) first second third (items_of c.add_range-in-Update.new.out)
    (ap demands c.in-Update.ensures.0)
    c.in_ok-add_demands-in-Update.ensures.items
    (c.in_ok-add_demands-in-Update-2.ensures.items ∙ ap (λ cs. first ++ demanded_under c.args.scope (map claim_tree cs) (demands i)) same)
    (c.in_ok-add_demands-in-Update-3.ensures.items ∙ ap (λ cs. second ++ demanded_under c.args.scope (map claim_tree cs) (demands x)) still)
    (h ∙ ap (λ cs. third ++ demanded_under c.args.scope (map claim_tree cs) range) (c.as_slice-in-Update.ensures ∙ yet)))
    c.add_range-in-Update.ensures

pub add_demands-returns-in-Sequence-clause-items : goal.add_demands-returns-in-Sequence-clause-items
add_demands-returns-in-Sequence-clause-items t c =
    on_ok_weaker c.add_all_demands.result
    (λ h. h ∙ ap (λ ds. items_of c.args.out.now ++ demanded_under c.args.scope (map claim_tree c.args.conditions.now) ds)
    (sym (demands_of_list (typed_expr c.args.expr.now) c.in-Sequence.field-0.0 (sequence_of (value_type c.in-Sequence.field-1.now)) c.in-Sequence.es.now c.in-Sequence.ensures.0)))
    c.add_all_demands.ensures.items

pub add_demands-returns-in-Record-clause-items : goal.add_demands-returns-in-Record-clause-items
add_demands-returns-in-Record-clause-items t c =
    on_ok_weaker c.add_all_demands-in-Record.result
    (λ h. h ∙ ap (λ ds. items_of c.args.out.now ++ demanded_under c.args.scope (map claim_tree c.args.conditions.now) ds)
    (sym (demands_of_list (typed_expr c.args.expr.now) c.in-Record.field-0.0 (record_of c.in-Record.field-1) c.in-Record.es.now c.in-Record.ensures.0)))
    c.add_all_demands-in-Record.ensures.items

pub add_right_demands-returns-in_ok-push-in-WhereTrue-clause-items : goal.add_right_demands-returns-in_ok-push-in-WhereTrue-clause-items
add_right_demands-returns-in_ok-push-in-WhereTrue-clause-items t c =
    let left = claim_of (typed_expr c.args.left.now) in
    let ds = demands (typed_expr c.args.right.now) in
    on_ok_weaker c.add_demands_within.result
    (λ h. right_under c.args.scope c.args.conditions.now c.in_ok-claim_of-in-WhereTrue.field-0 left left where_true (operator_evaluated c.args.operator) ds
    (items_of c.args.out.now) (items_of c.add_demands_within.new.out) (λ xs. refl) c.in-WhereTrue.ensures c.in_ok-claim_of-in-WhereTrue.ensures
    (h ∙ ap (λ cs. items_of c.args.out.now ++ demanded_under c.args.scope (map claim_tree cs) ds) c.in_ok-push-in-WhereTrue.ensures.ok))
    c.add_demands_within.ensures.items

pub add_right_demands-returns-in_ok-push-in-WhereFalse-clause-items : goal.add_right_demands-returns-in_ok-push-in-WhereFalse-clause-items
add_right_demands-returns-in_ok-push-in-WhereFalse-clause-items t c =
    let left = claim_of (typed_expr c.args.left.now) in
    let ds = demands (typed_expr c.args.right.now) in
    on_ok_weaker c.add_demands_within-in-WhereFalse.result
    (λ h. right_under c.args.scope c.args.conditions.now c.in_ok-unary-in-WhereFalse.field-0 left (unary Unary.Not left) where_false (operator_evaluated c.args.operator) ds
    (items_of c.args.out.now) (items_of c.add_demands_within-in-WhereFalse.new.out) (λ xs. refl) c.in-WhereFalse.ensures
    (c.in_ok-unary-in-WhereFalse.ensures ∙ ap (unary Unary.Not) c.in_ok-claim_of-in-WhereFalse.ensures)
    (h ∙ ap (λ cs. items_of c.args.out.now ++ demanded_under c.args.scope (map claim_tree cs) ds) c.in_ok-push-in-WhereFalse.ensures.ok))
    c.add_demands_within-in-WhereFalse.ensures.items
