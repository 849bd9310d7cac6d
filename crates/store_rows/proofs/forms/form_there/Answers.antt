use Rattle.std.proofs.Common.{subst}
use Rattle.term_store.specs.Store.{tree_at}
use Rattle.store_entries.specs.declared.entry.Entry.{Entry}
use Rattle.store_entries.specs.Entries.{IsEntryOf}
use Rattle.store_entries.proofs.Kept.{entry_there}
use Rattle.store_rows.proofs.forms.form_there.Goals as goal

pub returns : goal.returns
returns c =
    let store = c.args.store.now in
    subst (λ (e : Entry). IsEntryOf store (tree_at store c.args.id) e) c.in-Form.is
    (entry_there store c.args.entries.now c.args.id c.index-entries-id.result c.requires.entries c.requires.formed c.index-entries-id.is)
