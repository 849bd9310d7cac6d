use Rattle.std.proofs.Common.{sym, subst}
use Rattle.tree_forms.specs.Canonical.{canonical_number}
use Rattle.term_store.specs.Store.{tree_at, Holds}
use Rattle.term_store.proofs.Stores.{Holds-tree_at}
use Rattle.store_entries.specs.declared.entry.Entry.{Entry}
use Rattle.store_entries.specs.declared.entry.Entry.TheVariants.{Form, Wide}
use Rattle.store_entries.specs.Entries.{IsEntryOf, HasForm}
use Rattle.store_canonical.proofs.Inside.{of_form, of_wide}
use Rattle.store_canonical.proofs.terms.number_of_entry.Goals as goal

pub form_term-requires : goal.form_term-requires
form_term-requires c =
    let h : HasForm c.args.store.now (tree_at c.args.store.now c.args.id) c.in-Form.form = subst (IsEntryOf c.args.store.now (tree_at c.args.store.now c.args.id)) c.in-Form.is c.requires.entry in
    h.is.within

pub returns-in-Form-clause-number : goal.returns-in-Form-clause-number
returns-in-Form-clause-number c =
    of_form c.form_term.result c.args.store.now c.form_term.new.store (tree_at c.args.store.now c.args.id) c.in-Form.form
    (subst (IsEntryOf c.args.store.now (tree_at c.args.store.now c.args.id)) c.in-Form.is c.requires.entry) c.form_term.ensures.number

pub returns-in-Wide-clause-number : goal.returns-in-Wide-clause-number
returns-in-Wide-clause-number c =
    subst (Holds c.args.store.now c.args.id) (of_wide (tree_at c.args.store.now c.args.id) (subst (IsEntryOf c.args.store.now (tree_at c.args.store.now c.args.id)) c.in-Wide.is c.requires.entry))
    (Holds-tree_at c.args.store.now c.args.id c.requires.within)
