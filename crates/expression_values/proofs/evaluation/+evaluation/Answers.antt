use Rattle.std.proofs.Common.{◌∙◌, ℤ, List, take, drop, suc, Err, SFits, rules, subst, sym, ap, ap₂}
use Rattle.std.specs.Int.{w128}
use Rattle.std.proofs.lemmas.Int.{to_z-of_z}
use Rattle.std.proofs.lemmas.List.{take_all}
use Rattle.slang_values.specs.Value.{with_value_last}
use Rattle.lk_programs.specs.declared.expression.Expr.{Expr}
use Rattle.run_values.specs.Value.{plain_values}
use Rattle.run_values.proofs.Values.{with_value_last-push}
use Rattle.program_trees.specs.Programs.{number}
use Rattle.expression_values.specs.Environment.{values_in, variable_in, expression_in, expressions_in}
use Rattle.expression_values.specs.Answers.{Tells, AnswersValue, values_in_order}
use Rattle.expression_values.proofs.Stops.{tells_first}
use Rattle.expression_values.proofs.Dispatch.{over, right_is, stops, stops_no_more, stops_there, one_value_more, at_place, take_next}
use Rattle.expression_values.proofs.evaluation.+evaluation.Goals as goal

pub held-returns-in-Literal : goal.held-returns-in-Literal
held-returns-in-Literal t c records =
    let z = c.in-Literal.z in
    let fits : SFits w128 z = search rules in
    over c.args.env.now c.args.expr.now _ records _ c.in-Literal.ensures
    (subst (λ (y : ℤ). AnswersValue records (values_in c.args.env.now) (number c.in-Literal.node.0 y) c.literal.result) (to_z-of_z w128 z fits)
    (c.literal.ensures records (values_in c.args.env.now)))

pub held-returns-in-Truth : goal.held-returns-in-Truth
held-returns-in-Truth t c records = over c.args.env.now c.args.expr.now _ records _ c.in-Truth.ensures (c.truth_literal.ensures records (values_in c.args.env.now))

pub held-returns-in-Variable : goal.held-returns-in-Variable
held-returns-in-Variable t c records =
    over c.args.env.now c.args.expr.now _ records _ c.in-Variable.ensures
    (c.variable-in-Variable.ensures records (values_in c.args.env.now) (variable_in c.args.env.now c.in-Variable.n) c.variable.ensures)

pub held-returns-in-Unary : goal.held-returns-in-Unary
held-returns-in-Unary t c records =
    over c.args.env.now c.args.expr.now _ records _ c.in-Unary.ensures.0
    (c.unary.ensures records (values_in c.args.env.now) (expression_in c.args.env.now c.in-Unary.a.now) (c.held.ensures records))

-- the left operand stops
pub held-returns-in-Err : goal.held-returns-in-Err
held-returns-in-Err t c records =
    over c.args.env.now c.args.expr.now _ records (Err c.in-Err.end) c.in-Binary.ensures.0 (tells_first c.in-Err.end _ _ (c.in-Err.ensures records))

pub held-returns-then-is_right_evaluated : goal.held-returns-then-is_right_evaluated
held-returns-then-is_right_evaluated t c records =
    let left = c.in-Ok.ensures records in
    over c.args.env.now c.args.expr.now _ records _ c.in-Binary.ensures.0
    (c.binary.ensures records (values_in c.args.env.now) (expression_in c.args.env.now c.in-Binary.a.now) (expression_in c.args.env.now c.in-Binary.b.now)
    left.0 left.1
    (sym (right_is c.in-Binary.operator _ _ _ _ _ c.is_right_evaluated.ensures c.truth.ensures c.as_value.ensures left.1) ∙ c.if-is_right_evaluated.true)
    (c.held-then-is_right_evaluated.ensures records))

pub held-returns-in-Read : goal.held-returns-in-Read
held-returns-in-Read t c records =
    over c.args.env.now c.args.expr.now _ records _ c.in-Read.ensures.0
    (c.read.ensures records (values_in c.args.env.now) (expression_in c.args.env.now c.in-Read.head.now) (expression_in c.args.env.now c.in-Read.index.now)
    (c.held-in-Read.ensures records) (c.held-in-Read-2.ensures records))

pub held-returns-in-Update : goal.held-returns-in-Update
held-returns-in-Update t c records =
    over c.args.env.now c.args.expr.now _ records _ c.in-Update.ensures.0
    (c.update.ensures records (values_in c.args.env.now) (expression_in c.args.env.now c.in-Update.head.now) (expression_in c.args.env.now c.in-Update.index.now)
    (expression_in c.args.env.now c.in-Update.element.now) (c.held-in-Update.ensures records) (c.held-in-Update-2.ensures records)
    (c.held-in-Update-3.ensures records))

pub held-returns-in-Sequence : goal.held-returns-in-Sequence
held-returns-in-Sequence t c records =
    over c.args.env.now c.args.expr.now _ records _ c.in-Sequence.ensures.0
    (c.sequence.ensures records (values_in c.args.env.now) (expressions_in c.args.env.now c.in-Sequence.elements.now) (c.values.ensures records))

pub held-returns-in-Record : goal.held-returns-in-Record
held-returns-in-Record t c records =
    over c.args.env.now c.args.expr.now _ records _ c.in-Record.ensures.0
    (c.record_by_fields.ensures records (values_in c.args.env.now) (expressions_in c.args.env.now c.in-Record.fields.now) (c.values-in-Record.ensures records))

-- the expression at this place stops
pub values-returns-in-Err : goal.values-returns-in-Err
values-returns-in-Err t c records =
    let env = c.args.env.now in
    let exprs = c.args.exprs.now in
    let place = c.loop-expr.expr-index in
    let told = c.in-Err.ensures _ _ (c.held.ensures records) in
    subst (λ (all : List Expr). Tells c.in-Err.end (stops env records all)) (at_place exprs place c.expr-item.result c.loop-expr-test.true c.expr-item.is)
    (stops_there env records c.in-Err.end (take place exprs) c.expr-item.result (drop (suc place) exprs) (c.loop-expr.invariant records).0 told)

pub values-loop-expr-preserved : goal.values-loop-expr-preserved
values-loop-expr-preserved t c records =
    let env = c.args.env.now in
    let exprs = c.args.exprs.now in
    let place = c.loop-expr.expr-index in
    let so_far = c.loop-expr.invariant records in
    let found = c.in-Ok.ensures _ _ (c.held.ensures records) in
    let next = take_next exprs place c.expr-item.result c.loop-expr-test.true c.expr-item.is in (
      ap (stops env records) next ∙ stops_no_more env records (take place exprs) c.expr-item.result so_far.0 found.0,
      ap plain_values c.in_ok-push-in-Ok.ensures.ok
          ∙ sym (with_value_last-push c.loop-expr.values c.in-Ok.value)
          ∙ ap₂ with_value_last so_far.1 found.1
          ∙ sym (one_value_more env records (take place exprs) c.expr-item.result)
          ∙ sym (ap (λ (some : List Expr). values_in_order records (values_in env) (expressions_in env some)) next),
    )

pub values-returns : goal.values-returns
values-returns t c records =
    let env = c.args.env.now in
    let whole = take_all c.loop-expr.expr-index c.args.exprs.now c.loop-expr-test.false in
    let so_far = c.loop-expr.invariant records in (
      ap (stops env records) (sym whole) ∙ so_far.0,
      so_far.1 ∙ ap (λ (some : List Expr). values_in_order records (values_in env) (expressions_in env some)) whole,
    )
