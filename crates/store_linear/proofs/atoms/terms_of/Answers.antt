use Rattle.std.proofs.Common.{◌<◌, ◌+◌, length, sym, subst, arith}
use Rattle.std.proofs.lemmas.Option.{get_or_from_slice_get}
use Rattle.term_store.specs.Store.{tree_at}
use Rattle.store_entries.specs.declared.entry.Entry.{Entry}
use Rattle.store_entries.specs.Entries.{IsEntryOf}
use Rattle.store_entries.proofs.Kept.{entry_there}
use Rattle.store_linear.proofs.Alone.{TermsSoFar, no_terms, wide_part, one_term_more, term_held, atoms_held, below_at}
use Rattle.store_linear.proofs.atoms.terms_of.Goals as goal

pub loop-at-init : goal.loop-at-init
loop-at-init c =
    let store = c.args.store.now in
    subst (TermsSoFar store store c.args.ids.now 0) (sym c.new-terms.ensures.items) (no_terms store c.args.ids.now)

pub returns-in-Wide-clause-terms : goal.returns-in-Wide-clause-terms
returns-in-Wide-clause-terms c =
    let store = c.args.store.now in
    let entries = c.args.entries.now in
    let ids = c.args.ids.now in
    let at = c.loop-at.at in
    let id = c.id_there-id.result in
    let l : at < length ids = omega arith in
    let is = sym (get_or_from_slice_get ids at id id c.id_there-id.ensures) in
    let within = below_at ids at id (length entries) c.requires.within l is in
    wide_part store ids at id l is
    (subst (λ (e : Entry). IsEntryOf store (tree_at store id) e) c.in-Wide.is
    (entry_there store entries id c.index-entries-id.result c.requires.entries within c.index-entries-id.is))

pub form_term-requires : goal.form_term-requires
form_term-requires c =
    let store = c.args.store.now in
    let entries = c.args.entries.now in
    let ids = c.args.ids.now in
    let at = c.loop-at.at in
    let id = c.id_there-id.result in
    let l : at < length ids = omega arith in
    let is = sym (get_or_from_slice_get ids at id id c.id_there-id.ensures) in
    let within = below_at ids at id (length entries) c.requires.within l is in
    let there = entry_there store entries id c.index-entries-id.result c.requires.entries within c.index-entries-id.is in
    atoms_held store c.loop-at.store (tree_at store id) c.in-Form.form
    (subst (λ (e : Entry). IsEntryOf store (tree_at store id) e) c.in-Form.is there) c.loop-at.invariant.grows

pub loop-at-preserved : goal.loop-at-preserved
loop-at-preserved c =
    let store = c.args.store.now in
    let entries = c.args.entries.now in
    let ids = c.args.ids.now in
    let at = c.loop-at.at in
    let id = c.id_there-id.result in
    let now = c.loop-at.store in
    let new = c.form_term.new.store in
    let term = c.in_ok-term-in-Form.term in
    let l : at < length ids = omega arith in
    let is = sym (get_or_from_slice_get ids at id id c.id_there-id.ensures) in
    let within = below_at ids at id (length entries) c.requires.within l is in
    let there = entry_there store entries id c.index-entries-id.result c.requires.entries within c.index-entries-id.is in
    let h = subst (λ (e : Entry). IsEntryOf store (tree_at store id) e) c.in-Form.is there in
    let held = term_held store now new (tree_at store id) c.in-Form.form term h c.loop-at.invariant.grows c.in_ok-term-in-Form.ensures.number in
    subst (TermsSoFar store new ids (at + 1)) (sym c.in_ok-push-in-Form.ensures.items)
    (one_term_more store now new ids at id term c.loop-at.terms.items l is c.loop-at.invariant c.in_ok-term-in-Form.ensures.grows h.narrow held)
