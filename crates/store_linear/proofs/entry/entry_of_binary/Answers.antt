use Rattle.std.proofs.Common.{subst}
use Rattle.term_store.specs.Store.{tree_at}
use Rattle.store_entries.specs.declared.entry.Entry.{Entry}
use Rattle.store_entries.specs.Entries.{IsEntryOf}
use Rattle.store_entries.proofs.Kept.{entry_there}
use Rattle.store_linear.proofs.Kept.{wide_left}
use Rattle.store_linear.proofs.entry.entry_of_binary.Goals as goal

pub entry_beside-requires-clause-left : goal.entry_beside-requires-clause-left
entry_beside-requires-clause-left c =
    let store = c.args.store.now in
    let t = tree_at store c.args.a in
    subst (λ (e : Entry). IsEntryOf store t e) c.in-Form.is
    (entry_there store c.args.entries.now c.args.a c.index-entries-a.result c.requires.entries c.requires.left c.index-entries-a.is)

pub returns-in-Wide-clause-entry : goal.returns-in-Wide-clause-entry
returns-in-Wide-clause-entry c =
    let store = c.args.store.now in
    let t = tree_at store c.args.a in
    wide_left c.args.op t (tree_at store c.args.b)
    (subst (λ (e : Entry). IsEntryOf store t e) c.in-Wide.is
    (entry_there store c.args.entries.now c.args.a c.index-entries-a.result c.requires.entries c.requires.left c.index-entries-a.is))
