use Rattle.std.proofs.Common.{subst}
use Rattle.tree_forms.proofs.Narrow.{small-form}
use Rattle.term_store.specs.Store.{tree_at}
use Rattle.store_entries.specs.declared.entry.Entry.{Entry}
use Rattle.store_entries.specs.Entries.{IsEntryOf}
use Rattle.store_entries.proofs.Kept.{entry_there}
use Rattle.store_linear.proofs.Kept.{small_entry, narrowed_unary, wide_unary}
use Rattle.store_linear.proofs.entry.entry_of_unary.Goals as goal

pub unary_form-requires : goal.unary_form-requires
unary_form-requires c =
    let store = c.args.store.now in
    let t = tree_at store c.args.a in
    let h = subst (λ (e : Entry). IsEntryOf store t e) c.in-Form.is
    (entry_there store c.args.entries.now c.args.a c.index-entries-a.result c.requires.entries c.requires.part c.index-entries-a.is) in
    small_entry store t c.in-Form.form h (small-form t h.narrow)

pub returns-in_ok-whole-in-Form-clause-entry : goal.returns-in_ok-whole-in-Form-clause-entry
returns-in_ok-whole-in-Form-clause-entry c =
    let store = c.args.store.now in
    let t = tree_at store c.args.a in
    let h = subst (λ (e : Entry). IsEntryOf store t e) c.in-Form.is
    (entry_there store c.args.entries.now c.args.a c.index-entries-a.result c.requires.entries c.requires.part c.index-entries-a.is) in
    narrowed_unary store c.unary_form.new.store c.args.op t c.in-Form.form
    c.in_ok-whole-in-Form.whole c.narrowed.result h c.in_ok-whole-in-Form.ensures.form c.narrowed.ensures

pub returns-in-Wide-clause-entry : goal.returns-in-Wide-clause-entry
returns-in-Wide-clause-entry c =
    let store = c.args.store.now in
    let t = tree_at store c.args.a in
    wide_unary c.args.op t
    (subst (λ (e : Entry). IsEntryOf store t e) c.in-Wide.is
    (entry_there store c.args.entries.now c.args.a c.index-entries-a.result c.requires.entries c.requires.part c.index-entries-a.is))
