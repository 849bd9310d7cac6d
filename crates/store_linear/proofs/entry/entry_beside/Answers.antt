use Rattle.std.proofs.Common.{subst}
use Rattle.tree_forms.proofs.Narrow.{small-form}
use Rattle.term_store.specs.Store.{tree_at}
use Rattle.store_entries.specs.declared.entry.Entry.{Entry}
use Rattle.store_entries.specs.Entries.{IsEntryOf}
use Rattle.store_entries.proofs.Kept.{entry_there}
use Rattle.store_linear.proofs.Kept.{small_entry, narrowed_binary, wide_right}
use Rattle.store_linear.proofs.entry.entry_beside.Goals as goal

pub binary_form-requires-clause-first : goal.binary_form-requires-clause-first
binary_form-requires-clause-first c =
    let store = c.args.store.now in
    let t = tree_at store c.args.a in
    small_entry store t c.args.left.now c.requires.left (small-form t c.requires.left.narrow)

pub binary_form-requires-clause-second : goal.binary_form-requires-clause-second
binary_form-requires-clause-second c =
    let store = c.args.store.now in
    let t = tree_at store c.args.b in
    let h = subst (λ (e : Entry). IsEntryOf store t e) c.in-Form.is
    (entry_there store c.args.entries.now c.args.b c.index-entries-b.result c.requires.entries c.requires.right c.index-entries-b.is) in
    small_entry store t c.in-Form.right h (small-form t h.narrow)

pub returns-in_ok-whole-in-Form-clause-entry : goal.returns-in_ok-whole-in-Form-clause-entry
returns-in_ok-whole-in-Form-clause-entry c =
    let store = c.args.store.now in
    let t = tree_at store c.args.b in
    let h = subst (λ (e : Entry). IsEntryOf store t e) c.in-Form.is
    (entry_there store c.args.entries.now c.args.b c.index-entries-b.result c.requires.entries c.requires.right c.index-entries-b.is) in
    narrowed_binary store c.binary_form.new.store c.args.op (tree_at store c.args.a)
    t c.args.left.now c.in-Form.right c.in_ok-whole-in-Form.whole c.narrowed.result
    c.requires.left h c.in_ok-whole-in-Form.ensures.form c.narrowed.ensures

pub returns-in-Wide-clause-entry : goal.returns-in-Wide-clause-entry
returns-in-Wide-clause-entry c =
    let store = c.args.store.now in
    let t = tree_at store c.args.b in
    wide_right c.args.op (tree_at store c.args.a) t
    (subst (λ (e : Entry). IsEntryOf store t e) c.in-Wide.is
    (entry_there store c.args.entries.now c.args.b c.index-entries-b.result c.requires.entries c.requires.right c.index-entries-b.is))
