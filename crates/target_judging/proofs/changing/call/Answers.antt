use Rattle.std.proofs.Common.{map, subst, sym}
use Rattle.slang_tree.specs.ExprTree.{expr_tree, exprs_of}
use Rattle.type_rules.specs.Expressions.{in_program, judged_each}
use Rattle.text_types.specs.Found.{AreJudged}
use Rattle.name_scopes.specs.Fits.{Fits}
use Rattle.target_judging.proofs.changing.call.Goals as goal

pub returns-clause-told : goal.returns-clause-told
returns-clause-told c = λ at fits.
    let before = c.args.told.now.found in
    let parts = judged_each at in_program (exprs_of (map expr_tree c.args.arguments.now)) in
    c.called_alone.ensures at before parts (subst (λ s. Fits s at) (sym c.in_ok-founds.ensures.scope) fits)
    (subst (λ founds. AreJudged before c.judged_each.new.told.found founds parts) (sym c.as_slice.ensures) (c.in_ok-founds.ensures.judged at fits))
