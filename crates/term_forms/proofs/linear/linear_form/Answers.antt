use Rattle.std.proofs.Common.{sym, subst}
use Rattle.tree_forms.specs.Laws.{HasValueOf, IsInOrder}
use Rattle.tree_forms.proofs.FormOrder.{IsInOrder-form}
use Rattle.tree_forms.proofs.FormValues.{HasValueOf-form}
use Rattle.term_trees.specs.Term.{tree}
use Rattle.term_forms.proofs.linear.linear_form.Goals as goal

pub returns-clause-has_value : goal.returns-clause-has_value
returns-clause-has_value c =
    let t = tree c.args.term.now in subst (HasValueOf t) (sym c.in_ok-form.ensures.form.same) (HasValueOf-form t)

pub returns-clause-in_order : goal.returns-clause-in_order
returns-clause-in_order c = subst IsInOrder (sym c.in_ok-form.ensures.form.same) (IsInOrder-form (tree c.args.term.now))
