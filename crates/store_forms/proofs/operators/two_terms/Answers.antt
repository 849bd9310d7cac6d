use Rattle.std.proofs.Common.{subst}
use Rattle.tree_forms.specs.Form.{LinearForm, form_term}
use Rattle.term_store.specs.Store.{Holds}
use Rattle.term_store.proofs.Stores.{Grows-Holds}
use Rattle.store_forms.specs.Form.{form_at}
use Rattle.store_forms.proofs.Atoms.{form-grows}
use Rattle.store_forms.proofs.operators.two_terms.Goals as goal

pub returns-clause-numbers : goal.returns-clause-numbers
returns-clause-numbers c =
    let old = c.args.store.now in
    let mid = c.form_term.new.store in
    let new = c.form_term-2.new.store in
    record {
      first = Grows-Holds mid new c.in_ok-a.a (form_term (form_at old c.args.left.now)) c.form_term-2.ensures.grows c.in_ok-a.ensures.number;
      second =
          subst (λ (f : LinearForm). Holds new c.in_ok-b.b (form_term f)) (form-grows old mid c.args.right.now c.form_term.ensures.grows c.requires.second)
          c.in_ok-b.ensures.number;
    }
