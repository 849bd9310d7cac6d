use Rattle.std.proofs.Common.{neg_ℤ, ap, ap₂, ◌∙◌, rules, SFits}
use Rattle.std.specs.Int.{w128}
use Rattle.std.proofs.lemmas.Int.{to_z-of_z}
use Rattle.slang_values.specs.Tree.{binary, literal}
use Rattle.slang_values.specs.declared.operators.Binary.{Binary}
use Rattle.tree_forms.specs.Form.{form_term, plus, scaled, atom_form}
use Rattle.term_store.proofs.Stores.{Holds-within, tree_at-Holds}
use Rattle.store_forms.specs.Form.{form_at}
use Rattle.store_forms.proofs.Atoms.{form-grows, IsSmall-grows}
use Rattle.store_forms.proofs.Added.{form_same}
use Rattle.store_forms.proofs.operators.constant_remainder.Goals as goal

pub multiple_of_atom-requires-clause-atom : goal.multiple_of_atom-requires-clause-atom
multiple_of_atom-requires-clause-atom c = Holds-within c.quotient_term.new.store c.in_ok-quotient.quotient _ c.in_ok-quotient.ensures.number

pub plus-requires-clause-first : goal.plus-requires-clause-first
plus-requires-clause-first c = IsSmall-grows c.args.store.now c.quotient_term.new.store c.args.form.now c.quotient_term.ensures.grows c.requires.form

pub returns-clause-form : goal.returns-clause-form
returns-clause-form c =
    let old = c.args.store.now in
    let mid = c.quotient_term.new.store in
    let d = c.args.divisor in
    let z = to_z-of_z w128 d c.ranges.divisor in
    let f : SFits w128 c.opposite.result = search rules in
    let times = to_z-of_z w128 c.opposite.result f ∙ c.opposite.ensures ∙ ap neg_ℤ z in
    let quotient = tree_at-Holds mid c.in_ok-quotient.quotient _ c.in_ok-quotient.ensures.number ∙ ap (λ k. binary Binary.Div (form_term (form_at old c.args.form.now)) (literal k)) z in
    let multiple = c.in_ok-multiple.ensures.form.same ∙ ap₂ scaled times (ap atom_form quotient) in
    let form = form-grows old mid c.args.form.now c.quotient_term.ensures.grows c.requires.form.within in
    form_same c.plus.result mid (plus (form_at mid c.args.form.now) (form_at mid c.in_ok-multiple.multiple)) (plus (form_at old c.args.form.now) (scaled (neg_ℤ d) (atom_form (binary Binary.Div (form_term (form_at old c.args.form.now)) (literal d)))))
    (ap₂ plus form multiple) c.plus.ensures
