use Rattle.std.proofs.Common.{◌<◌, length, sym, ap, subst, arith}
use Rattle.std.proofs.lemmas.List.{length_push}
use Rattle.term_store.proofs.Stores.{Grows-Grows, Grows-length}
use Rattle.store_entries.specs.Entries.{AreEntries}
use Rattle.store_entries.proofs.Kept.{AreEntries-grows, AreEntries-more}
use Rattle.store_linear.proofs.table.FormTable.work_out.Goals as goal

pub returns-in_err-entry-clause-entries : goal.returns-in_err-entry-clause-entries
returns-in_err-entry-clause-entries c = AreEntries-grows c.terms.store
    c.entry_of.new.store c.terms.self.entries.items c.entry_of.ensures.grows c.terms.invariant.entries

pub returns-in_err-push-clause-entries : goal.returns-in_err-push-clause-entries
returns-in_err-push-clause-entries c =
    subst (AreEntries c.entry_of.new.store) (sym c.in_err-push.ensures.items)
    (AreEntries-grows c.terms.store c.entry_of.new.store c.terms.self.entries.items c.in_ok-entry.ensures.grows c.terms.invariant.entries)

pub terms-preserved : goal.terms-preserved
terms-preserved c =
    let old = c.args.store.now in
    let now = c.terms.store in
    let new = c.entry_of.new.store in
    let entries = c.terms.self.entries.items in
    let id = c.terms.id in
    let entry = c.in_ok-entry.entry in
    let here : id < length now = omega (arith, c.terms-test.true, c.requires.count, Grows-length old now c.terms.invariant.grows) in
    record {
      grows = Grows-Grows old now new c.terms.invariant.grows c.in_ok-entry.ensures.grows;
      entries =
          subst (AreEntries new) (sym c.in_ok-push.ensures.items)
          (AreEntries-more now new entries id entry c.in_ok-entry.ensures.grows c.terms.invariant.entries
          (sym c.terms.invariant.next) here c.in_ok-entry.ensures.entry);
      next = omega (arith, c.terms.invariant.next, ap length c.in_ok-push.ensures.items, length_push entries entry);
    }
