use Rattle.std.proofs.Common.{◌≡◌, neg_ℤ, IfOk, ap, ap₂, ◌∙◌, subst, SFits, rules}
use Rattle.std.specs.Int.{w128}
use Rattle.std.proofs.lemmas.Int.{to_z-of_z}
use Rattle.slang_values.specs.Tree.{binary, literal}
use Rattle.slang_values.specs.declared.operators.Binary.{Binary}
use Rattle.tree_forms.specs.Form.{LinearForm, form_term, plus, scaled, atom_form}
use Rattle.term_trees.specs.declared.term.Term.TheVariants.{Lit}
use Rattle.term_trees.specs.Term.{tree}
use Rattle.term_trees.proofs.Trees.{tree-Lit}
use Rattle.term_forms.specs.Form.{form_of}
use Rattle.term_forms.proofs.SumLemmas.{small_multiple, within_opposite}
use Rattle.term_forms.proofs.operators.constant_remainder.Goals as goal

pub plus-requires-clause-second : goal.plus-requires-clause-second
plus-requires-clause-second c =
    let d = c.args.divisor in
    let f : SFits w128 c.opposite.result = search rules in
    let k : c.opposite.result ≡ neg_ℤ d = c.opposite.ensures ∙ ap neg_ℤ (to_z-of_z w128 d c.ranges.divisor) in
    small_multiple (neg_ℤ d) (tree c.in_ok-quotient.quotient) (form_of c.times.result)
    (c.times.ensures ∙ ap₂ scaled (to_z-of_z w128 c.opposite.result f ∙ k) c.in_ok-quotient-2.ensures)
    (within_opposite d c.requires.narrow)

pub returns : goal.returns
returns c =
    let d = c.args.divisor in
    let f : SFits w128 c.opposite.result = search rules in
    let k : c.opposite.result ≡ neg_ℤ d = c.opposite.ensures ∙ ap neg_ℤ (to_z-of_z w128 d c.ranges.divisor) in
    let quotient : tree c.in_ok-quotient.quotient ≡ binary Binary.Div (form_term (form_of c.args.form)) (literal d) =
    c.in_ok-quotient.ensures ∙ ap₂ (binary Binary.Div) c.in_ok-dividend.ensures (ap (λ z. tree (Lit z)) (to_z-of_z w128 d c.ranges.divisor) ∙ tree-Lit d) in
    let made = c.times.ensures ∙ ap₂ scaled (to_z-of_z w128 c.opposite.result f ∙ k) (c.in_ok-quotient-2.ensures ∙ ap atom_form quotient) in
    subst (λ (g : LinearForm). IfOk c.plus.result (λ r. form_of r ≡ plus (form_of c.args.form) g)) made c.plus.ensures.sum
