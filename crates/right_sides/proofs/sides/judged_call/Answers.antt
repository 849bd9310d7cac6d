use Rattle.std.proofs.Common.{map, subst, sym}
use Rattle.slang_tree.specs.ExprTree.{application, expr_tree, exprs_of}
use Rattle.type_rules.specs.Expressions.{callee, in_program, judged, judged_call, judged_each, judged_side}
use Rattle.text_types.specs.Found.{IsJudged, seen}
use Rattle.name_scopes.specs.Fits.{Fits}
use Rattle.expression_forms.proofs.Lists.{call_parts}
use Rattle.right_sides.proofs.RightSides.{method_found}
use Rattle.right_sides.proofs.sides.judged_call.Goals as goal

pub returns-clause-judged : goal.returns-clause-judged
returns-clause-judged c = λ at fits is.
    let head = expr_tree c.args.head.now in
    let place = c.args.place in
    let trees = exprs_of (map expr_tree c.args.arguments.now) in
    let parts = judged_each at in_program trees in
    let known = method_found (callee at head) is in
    subst (λ named. IsJudged c.args.told.now.found c.called.new.told.found c.called.result
    (judged_side at place named (judged at in_program (application place head trees)) parts))
    (sym known.1.1)
    (call_parts at place known.0 known.1.0 parts
    (c.in_ok-founds.ensures.judged at fits)
    (subst (λ founds. IsJudged c.judged_each.new.told.found c.called.new.told.found c.called.result (judged_call at place known.0 known.1.0 (map seen founds)))
    c.as_slice.ensures
    (c.called.ensures at known.0 known.1.0 (subst (λ s. Fits s at) (sym c.in_ok-founds.ensures.scope) fits) known.1.1)))
