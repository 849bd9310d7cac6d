use Rattle.std.proofs.Common.{◌+◌, ◌*◌, max, take}
use Rattle.term_trees.specs.declared.term.Term.{size-Term}
use Rattle.term_trees.specs.Shape.{deepest}
use Rattle.term_trees.specs.Term.{trees}
use Rattle.term_forms.specs.Form.{AreTermsOf}
use Rattle.term_forms.proofs.linear.+form.Given as goal

abbrev pub decreases-form_of_term : goal.decreases-form_of_term
decreases-form_of_term l = 4 * size-Term l.term.now

abbrev pub decreases-form_of_unary : goal.decreases-form_of_unary
decreases-form_of_unary l = 4 * size-Term l.a.now + 2

abbrev pub decreases-form_of_binary : goal.decreases-form_of_binary
decreases-form_of_binary l = 4 * max (size-Term l.a.now) (size-Term l.b.now) + 2

abbrev pub decreases-form_of_update : goal.decreases-form_of_update
decreases-form_of_update l = 4 * max (size-Term l.a.now) (max (size-Term l.i.now) (size-Term l.x.now)) + 2

abbrev pub decreases-form_of_quantified : goal.decreases-form_of_quantified
decreases-form_of_quantified l = 4 * max (size-Term l.low.now) (max (size-Term l.high.now) (size-Term l.body.now)) + 2

abbrev pub decreases-canonical_term : goal.decreases-canonical_term
decreases-canonical_term l = 4 * size-Term l.term.now + 1

abbrev pub decreases-canonical_terms : goal.decreases-canonical_terms
decreases-canonical_terms l = 4 * deepest l.terms.now + 2

abbrev pub decreases-add_canonical_terms : goal.decreases-add_canonical_terms
decreases-add_canonical_terms l = 4 * deepest l.terms.now + 1

abbrev pub invariant-add_canonical_terms-loop-term : goal.invariant-add_canonical_terms-loop-term
invariant-add_canonical_terms-loop-term l = AreTermsOf (trees (take l.term-index l.terms)) (trees l.parts)
