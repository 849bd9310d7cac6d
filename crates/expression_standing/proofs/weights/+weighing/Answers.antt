use Rattle.std.proofs.Common.{◌≡◌, true, refl, sym, ap, ◌∙◌, nat_eq, nat_le, min, max, take, length, get_or, take_all, arith}
use Rattle.slang_tree.specs.declared.expression.Expr.{Expr}
use Rattle.slang_grammar.specs.Operators.{prefix_level, whole_level}
use Rattle.slang_grammar.specs.Expressions.{level}
use Rattle.print_expressions.specs.Hefts.{one, around, followed, heft, peak_of, heavy}
use Rattle.print_expressions.specs.Accounts.{as_prefixed, as_head, first_before}
use Rattle.expression_standing.specs.Account.{account_of, accounts_of}
use Rattle.expression_standing.specs.Hefts.{IsCapped, most_of}
use Rattle.expression_standing.proofs.Lighter.{placed_is, most_more, most_is}
use Rattle.expression_standing.proofs.weights.+weighing.Goals as goal

pub prefixed_heft-returns : goal.prefixed_heft-returns
prefixed_heft-returns t c =
    let own = account_of true c.args.operand.now in
    c.followed.ensures one (heft (as_prefixed own)) c.one.ensures
    (placed_is c.placed-own.result c.stands_behind_prefix.result (nat_le prefix_level (level own)) own (c.stands_behind_prefix.ensures true)
    (c.placed-own.ensures own c.heft_of.ensures))

pub sequence_heft-returns : goal.sequence_heft-returns
sequence_heft-returns t c =
    c.followed.ensures _ (around (peak_of (accounts_of true c.args.elements.now))) c.element_heft.ensures
    (c.around.ensures (peak_of (accounts_of true c.args.elements.now)) c.peak_of.ensures.peak)

pub quantified_heft-returns : goal.quantified_heft-returns
quantified_heft-returns t c =
    let low = account_of true c.args.low.now in
    let high = account_of true c.args.high.now in
    let body = account_of true c.args.body.now in
    let range = c.pair-range.ensures low high c.heft_of.ensures c.heft_of-2.ensures in
    c.followed.ensures (around (followed (heft (first_before true low high)) (heft high)).peak) (around (heft body).peak)
    (c.around.ensures (followed (heft (first_before true low high)) (heft high)).peak range.peak)
    (c.around-2.ensures (heft body).peak c.heft_of-inner.ensures.peak)

pub indices_heft-returns : goal.indices_heft-returns
indices_heft-returns t c =
    let head = account_of true c.args.head.now in
    let body = account_of true c.args.body.now in
    let own = placed_is c.placed.result c.stands_as_head.result (nat_eq (level head) whole_level) head (c.stands_as_head.ensures true)
    (c.placed.ensures head c.heft_of.ensures) in
    let range = c.followed-range.ensures (heft (as_head head)) one own c.one.ensures in
    c.followed.ensures (around (followed (heft (as_head head)) one).peak) (around (heft body).peak)
    (c.around.ensures (followed (heft (as_head head)) one).peak range.peak) (c.around-2.ensures (heft body).peak c.heft_of-inner.ensures.peak)

pub peak_of-loop-expr-preserved : goal.peak_of-loop-expr-preserved
peak_of-loop-expr-preserved t c =
    let e = most_more c.args.exprs.now c.loop-expr.expr-index c.expr-item.result c.loop-expr-test.true in
    let f = ap (λ (x : Expr). (heft (account_of true x)).peak) c.expr-item.is in
    let h = c.heft_of.ensures.peak in
    let k = c.loop-expr.invariant in
    let m = c.max-most.ensures in
    omega (arith, e, f, h, k, m)

pub peak_of-returns-clause-peak : goal.peak_of-returns-clause-peak
peak_of-returns-clause-peak t c =
    c.loop-expr.invariant ∙ ap (λ es. min (most_of es) heavy) (take_all c.loop-expr.expr-index c.args.exprs.now (omega arith))
    ∙ ap (λ p. min p heavy) (most_is c.args.exprs.now)
