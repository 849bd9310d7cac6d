use Rattle.std.proofs.Common.{◌≡◌, ap, ◌∙◌}
use Rattle.std.proofs.lemmas.Result.{err_from_is_err_and}
use Rattle.owned_results.proofs.Parts.{of_part}
use Rattle.slang_values.specs.Tree.{listed, sequence_of, record_of}
use Rattle.term_trees.specs.Term.{sort_type, tree, trees}
use Rattle.term_trees.proofs.Trees.{tree-Update, tree-SeqLit, tree-Rec}
use Rattle.tree_forms.specs.Form.{atom_form}
use Rattle.term_forms.specs.Form.{form_of, IsFormOf, IsTermOf, AreTermsOf}
use Rattle.term_forms.proofs.Forms.{small_form_of, form_of_three, form_of_range, form_of_list, narrowed_one, narrowed_two, terms_of_none, term_of_form, AreTermsOf-more, ends_of_item}
use Rattle.term_forms.proofs.linear.+form.Goals as goal

pub add_canonical_terms-loop-term-init : goal.add_canonical_terms-loop-term-init
add_canonical_terms-loop-term-init t c = rw c.requires terms_of_none

pub add_canonical_terms-returns-in_err-form-clause-end : goal.add_canonical_terms-returns-in_err-form-clause-end
add_canonical_terms-returns-in_err-form-clause-end t c =
    let p = err_from_is_err_and c.from_residual.result c.from_residual.ensures.1 in
    rw (p.1, p.2) (ends_of_item c.args.terms.now c.loop-term.term-index c.term-item.result _ c.loop-term-test.true c.term-item.is c.in_err-form.ensures.end)

pub add_canonical_terms-loop-term-preserved : goal.add_canonical_terms-loop-term-preserved
add_canonical_terms-loop-term-preserved t c =
    let term = term_of_form (tree c.term-item.result) (tree c.in_ok-into_term.field-0) (form_of c.in_ok-form.form) c.in_ok-form.ensures.form c.in_ok-into_term.ensures in
    AreTermsOf-more c.args.terms.now c.loop-term.term-index c.term-item.result c.in_ok-into_term.field-0 c.loop-term.parts c.push.new.self c.loop-term.invariant c.loop-term-test.true c.term-item.is term c.in_ok-push.ensures.ok

pub form_of_binary-binary_form-requires-clause-first : goal.form_of_binary-binary_form-requires-clause-first
form_of_binary-binary_form-requires-clause-first t c =
    let a = of_part (λ f. IsFormOf (tree c.args.a.now) (form_of f)) _ _ c.form_of_term.ensures.form c.in_ok-left.ensures.parts.0 in
    small_form_of (tree c.args.a.now) (form_of c.in_ok-left.left) a

pub form_of_binary-binary_form-requires-clause-second : goal.form_of_binary-binary_form-requires-clause-second
form_of_binary-binary_form-requires-clause-second t c =
    let b = of_part (λ f. IsFormOf (tree c.args.b.now) (form_of f)) _ _ c.form_of_term-2.ensures.form c.in_ok-left.ensures.parts.1 in
    small_form_of (tree c.args.b.now) (form_of c.in_ok-left.right) b

pub form_of_binary-returns-clause-form : goal.form_of_binary-returns-clause-form
form_of_binary-returns-clause-form t c =
    let a = of_part (λ f. IsFormOf (tree c.args.a.now) (form_of f)) _ _ c.form_of_term.ensures.form c.in_ok-left.ensures.parts.0 in
    let b = of_part (λ f. IsFormOf (tree c.args.b.now) (form_of f)) _ _ c.form_of_term-2.ensures.form c.in_ok-left.ensures.parts.1 in
    narrowed_two c.args.op (tree c.args.a.now) (tree c.args.b.now) (form_of c.in_ok-left.left) (form_of c.in_ok-left.right) (form_of c.in_ok-binary_form.field-0) c.narrowed.result a b c.in_ok-binary_form.ensures c.narrowed.ensures

pub form_of_quantified-returns-clause-form : goal.form_of_quantified-returns-clause-form
form_of_quantified-returns-clause-form t c =
    let low = of_part (λ u. IsTermOf (tree c.args.low.now) (tree u)) _ _ c.canonical_term.ensures.term c.in_ok-low.ensures.parts.0 in
    let high = of_part (λ u. IsTermOf (tree c.args.high.now) (tree u)) _ _ c.canonical_term-2.ensures.term c.in_ok-low.ensures.parts.1 in
    let body = of_part (λ u. IsTermOf (tree c.args.body.now) (tree u)) _ _ c.canonical_term-3.ensures.term c.in_ok-low.ensures.parts.2 in
    form_of_range c.args.quantifier (tree c.args.low.now) (tree c.args.high.now) (tree c.args.body.now) (tree c.in_ok-low.low) (tree c.in_ok-low.high) (tree c.in_ok-low.body) (form_of c.in_ok-of_atom.field-0) low high body (c.in_ok-of_atom.ensures ∙ ap atom_form c.quantified_term.ensures)

pub form_of_term-returns-in_ok-of_atom-in-Sequence-clause-form : goal.form_of_term-returns-in_ok-of_atom-in-Sequence-clause-form
form_of_term-returns-in_ok-of_atom-in-Sequence-clause-form t c =
    let sort = of_part (λ s. s ≡ c.in-Sequence.s.now) _ _ c.copy_of_sort.ensures.same c.in_ok-sort-in-Sequence.ensures.parts.0 in
    let terms = of_part (λ us. AreTermsOf (trees c.in-Sequence.ts.now) (trees us)) _ _ c.canonical_terms.ensures.terms c.in_ok-sort-in-Sequence.ensures.parts.1 in
    let made = tree-SeqLit c.in_ok-sort-in-Sequence.sort c.in_ok-sort-in-Sequence.parts ∙ ap (λ s. listed (sequence_of (sort_type s)) (trees c.in_ok-sort-in-Sequence.parts)) sort in
    rw c.in-Sequence.ensures.0 (form_of_list (sequence_of (sort_type c.in-Sequence.s.now)) (trees c.in-Sequence.ts.now) (trees c.in_ok-sort-in-Sequence.parts) (form_of c.in_ok-of_atom-in-Sequence.field-0) terms (c.in_ok-of_atom-in-Sequence.ensures ∙ ap atom_form made))

pub form_of_term-returns-in_ok-of_atom-in-Record-clause-form : goal.form_of_term-returns-in_ok-of_atom-in-Record-clause-form
form_of_term-returns-in_ok-of_atom-in-Record-clause-form t c =
    rw c.in-Record.ensures.0 (form_of_list (record_of c.in-Record.n) (trees c.in-Record.ts.now) (trees c.in_ok-parts-in-Record.parts) (form_of c.in_ok-of_atom-in-Record.field-0) c.in_ok-parts-in-Record.ensures.terms (c.in_ok-of_atom-in-Record.ensures ∙ ap atom_form (tree-Rec c.in-Record.n c.in_ok-parts-in-Record.parts)))

pub form_of_unary-unary_form-requires : goal.form_of_unary-unary_form-requires
form_of_unary-unary_form-requires t c = small_form_of (tree c.args.a.now) (form_of c.in_ok-part.part) c.in_ok-part.ensures.form

pub form_of_unary-returns-clause-form : goal.form_of_unary-returns-clause-form
form_of_unary-returns-clause-form t c =
    narrowed_one c.args.op (tree c.args.a.now) (form_of c.in_ok-part.part) (form_of c.in_ok-unary_form.field-0) c.narrowed.result c.in_ok-part.ensures.form c.in_ok-unary_form.ensures c.narrowed.ensures

pub form_of_update-returns-clause-form : goal.form_of_update-returns-clause-form
form_of_update-returns-clause-form t c =
    let a = of_part (λ u. IsTermOf (tree c.args.a.now) (tree u)) _ _ c.canonical_term.ensures.term c.in_ok-a.ensures.parts.0 in
    let i = of_part (λ u. IsTermOf (tree c.args.i.now) (tree u)) _ _ c.canonical_term-2.ensures.term c.in_ok-a.ensures.parts.1 in
    let x = of_part (λ u. IsTermOf (tree c.args.x.now) (tree u)) _ _ c.canonical_term-3.ensures.term c.in_ok-a.ensures.parts.2 in
    form_of_three (tree c.args.a.now) (tree c.args.i.now) (tree c.args.x.now) (tree c.in_ok-a.a) (tree c.in_ok-a.i) (tree c.in_ok-a.x) (form_of c.in_ok-of_atom.field-0) a i x (c.in_ok-of_atom.ensures ∙ ap atom_form (tree-Update c.in_ok-a.a c.in_ok-a.i c.in_ok-a.x))
