use Rattle.std.proofs.Common.{subst, sym}
use Rattle.slang_tree.specs.ExprTree.{expr_tree}
use Rattle.type_rules.specs.Expressions.{judged_right}
use Rattle.name_scopes.specs.Fits.{Fits}
use Rattle.value_judging.proofs.declared_values.declared_by.Goals as goal

pub returns-clause-declared : goal.returns-clause-declared
returns-clause-declared c = λ at fits.
    c.declared.ensures at c.args.told.now.found (judged_right at (expr_tree c.args.value.now))
    (subst (λ s. Fits s at) (sym c.in_ok-found.ensures.scope) fits) (c.in_ok-found.ensures.judged at fits)
