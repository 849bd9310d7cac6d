use Rattle.std.proofs.Common.{neg_ℤ, ap, ◌∙◌, subst, rules, SFits, ℤ}
use Rattle.std.specs.Int.{w128}
use Rattle.std.proofs.lemmas.Int.{to_z-of_z}
use Rattle.tree_forms.specs.Form.{form, scaled, atom_form, is_within}
use Rattle.term_forms.proofs.SumLemmas.{within_opposite}
use Rattle.term_store.specs.Store.{tree_at}
use Rattle.store_forms.specs.Form.{IsForm}
use Rattle.store_rows.proofs.Sides.{small_there, sum_is}
use Rattle.store_rows.proofs.forms.rest_of.Goals as goal

pub multiple_of_atom-requires-clause-times : goal.multiple_of_atom-requires-clause-times
multiple_of_atom-requires-clause-times c =
    let d = c.args.c in
    let f : SFits w128 c.opposite.result = search rules in
    let times = to_z-of_z w128 c.opposite.result f ∙ c.opposite.ensures ∙ ap neg_ℤ (to_z-of_z w128 d c.ranges.c) in
    ap is_within times ∙ within_opposite d c.requires.divisor

pub sum-requires-clause-first : goal.sum-requires-clause-first
sum-requires-clause-first c =
    let store = c.args.store.now in
    small_there store (tree_at store c.args.a) c.form_there-dividend.result.now c.form_there-dividend.ensures

pub returns-clause-form : goal.returns-clause-form
returns-clause-form c =
    let store = c.args.store.now in
    let d = c.args.c in
    let f : SFits w128 c.opposite.result = search rules in
    let times = to_z-of_z w128 c.opposite.result f ∙ c.opposite.ensures ∙ ap neg_ℤ (to_z-of_z w128 d c.ranges.c) in
    let t = tree_at store c.args.quotient in
    sum_is c.sum.result store c.form_there-dividend.result.now c.in_ok-multiple.multiple (form (tree_at store c.args.a)) (scaled (neg_ℤ d) (atom_form t))
    c.form_there-dividend.ensures.is
    (subst (λ (z : ℤ). IsForm store c.in_ok-multiple.multiple (scaled z (atom_form t))) times c.in_ok-multiple.ensures.form) c.sum.ensures.form
