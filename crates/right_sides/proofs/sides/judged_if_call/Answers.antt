use Rattle.std.proofs.Common.{◌∙◌, ap, map, subst, sym, ◌≡◌, true}
use Rattle.std.specs.Prelude.{IfOk}
use Rattle.slang_tree.specs.ExprTree.{application, expr_tree, exprs_of}
use Rattle.slang_tree.proofs.Lines.{expr_tree-Apply}
use Rattle.type_rules.specs.Meanings.{Scope}
use Rattle.type_rules.specs.Expressions.{judged_right}
use Rattle.text_types.specs.Found.{IsJudged}
use Rattle.name_scopes.specs.Fits.{Fits}
use Rattle.right_sides.specs.Called.{calls_method}
use Rattle.right_sides.proofs.sides.judged_if_call.Goals as goal

pub returns-in-Apply-clause-judged : goal.returns-in-Apply-clause-judged
returns-in-Apply-clause-judged c =
    subst (λ tree. IfOk c.judged_call.result (λ found. (at : Scope) → Fits c.args.scope.now at → calls_method at tree ≡ true
    → IsJudged c.args.told.now.found c.judged_call.new.told.found found (judged_right at tree)))
    (sym (ap expr_tree c.in-Apply.is ∙ expr_tree-Apply c.in-Apply.place c.in-Apply.head c.in-Apply.arguments))
    (subst (λ arguments. IfOk c.judged_call.result (λ found. (at : Scope) → Fits c.args.scope.now at
    → calls_method at (application c.in-Apply.place (expr_tree c.in-Apply.head) (exprs_of (map expr_tree arguments))) ≡ true
    → IsJudged c.args.told.now.found c.judged_call.new.told.found found
    (judged_right at (application c.in-Apply.place (expr_tree c.in-Apply.head) (exprs_of (map expr_tree arguments))))))
    c.as_slice.ensures
    (subst (λ head. IfOk c.judged_call.result (λ found. (at : Scope) → Fits c.args.scope.now at
    → calls_method at (application c.in-Apply.place (expr_tree head) (exprs_of (map expr_tree c.as_slice.result.now))) ≡ true
    → IsJudged c.args.told.now.found c.judged_call.new.told.found found
    (judged_right at (application c.in-Apply.place (expr_tree head) (exprs_of (map expr_tree c.as_slice.result.now))))))
    c.get.ensures c.judged_call.ensures.judged))
