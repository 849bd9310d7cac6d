use Rattle.std.proofs.Common.{ℕ, ◌<◌, List, length, map, sym, ◌∙◌, subst}
use Rattle.std.specs.List.{AllByRecursion}
use Rattle.term_store.specs.Store.{tree_at}
use Rattle.term_store.proofs.Stores.{Grows-tree_at}
use Rattle.store_linear.specs.Entries.{AreTerms, IsOverTerms}
use Rattle.store_linear.proofs.Kept.{entry_as}
use Rattle.store_linear.proofs.Alone.{below_more, wide_atom, over_terms, alone_still}
use Rattle.store_linear.proofs.atoms.entry_of_atom.Goals as goal

pub terms_of-requires-clause-within : goal.terms_of-requires-clause-within
terms_of-requires-clause-within c =
    subst (λ (ks : List ℕ). AllByRecursion (λ k. k < length c.args.entries.now) ks) (sym (c.as_slice.ensures.value ∙ c.in_ok-parts.ensures))
    (below_more _ c.args.id (length c.args.entries.now) c.view.ensures.placed.below c.requires.next)

pub returns-in-None-clause-entry : goal.returns-in-None-clause-entry
returns-in-None-clause-entry c =
    let store = c.args.store.now in
    let parts = c.as_slice.result.now in
    wide_atom store c.args.id c.view.result.now parts c.view.ensures.placed (c.as_slice.ensures.value ∙ c.in_ok-parts.ensures) c.requires.alone
    (subst (AreTerms c.terms_of.new.store (map (tree_at store) parts)) c.in-None.is c.in_ok-terms_of.ensures.terms)

pub atom_over-requires-clause-alone : goal.atom_over-requires-clause-alone
atom_over-requires-clause-alone c = alone_still c.args.store.now
    c.terms_of.new.store c.args.id c.requires.within c.in_ok-terms_of.ensures.grows c.requires.alone

pub atom_over-requires-clause-terms : goal.atom_over-requires-clause-terms
atom_over-requires-clause-terms c =
    let store = c.args.store.now in
    let new = c.terms_of.new.store in
    let parts = c.as_slice.result.now in
    subst (IsOverTerms new c.args.id) (sym c.as_slice-in-Some.ensures.value)
    (over_terms store new c.args.id c.view.result.now parts c.in-Some.ids.items c.view.ensures.placed
    (c.as_slice.ensures.value ∙ c.in_ok-parts.ensures) c.requires.within c.in_ok-terms_of.ensures.grows
    (subst (AreTerms new (map (tree_at store) parts)) c.in-Some.is c.in_ok-terms_of.ensures.terms))

pub returns-clause-entry : goal.returns-clause-entry
returns-clause-entry c =
    let store = c.args.store.now in
    let mid = c.terms_of.new.store in
    entry_as c.atom_over.result c.atom_over.new.store (tree_at mid c.args.id) (tree_at store c.args.id)
    (Grows-tree_at store mid c.args.id c.in_ok-terms_of.ensures.grows c.requires.within)
    c.atom_over.ensures.entry
