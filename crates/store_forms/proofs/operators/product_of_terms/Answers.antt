use Rattle.std.proofs.Common.{subst}
use Rattle.tree_forms.specs.Form.{form_term, product_atom}
use Rattle.term_store.specs.Store.{Holds}
use Rattle.term_store.proofs.Stores.{Holds-within, tree_at-Holds}
use Rattle.store_forms.specs.Form.{form_at}
use Rattle.store_forms.proofs.Added.{atom_of}
use Rattle.store_forms.proofs.operators.product_of_terms.Goals as goal

pub product_atom-requires-clause-first : goal.product_atom-requires-clause-first
product_atom-requires-clause-first c = Holds-within c.two_terms.new.store c.in_ok-terms.terms.0 _ c.in_ok-terms.ensures.numbers.first

pub product_atom-requires-clause-second : goal.product_atom-requires-clause-second
product_atom-requires-clause-second c = Holds-within c.two_terms.new.store c.in_ok-terms.terms.1 _ c.in_ok-terms.ensures.numbers.second

pub returns-clause-form : goal.returns-clause-form
returns-clause-form c =
    let mid = c.two_terms.new.store in
    let new = c.product_atom.new.store in
    let left = form_term (form_at c.args.store.now c.args.left.now) in
    let right = form_term (form_at c.args.store.now c.args.right.now) in
    let first = tree_at-Holds mid c.in_ok-terms.terms.0 left c.in_ok-terms.ensures.numbers.first in
    let second = tree_at-Holds mid c.in_ok-terms.terms.1 right c.in_ok-terms.ensures.numbers.second in
    let held = subst (Holds new c.in_ok-atom.atom) (λ i. product_atom (first i) (second i)) c.in_ok-atom.ensures.number in
    atom_of c.of_atom.result new c.in_ok-atom.atom (product_atom left right) held c.of_atom.ensures
