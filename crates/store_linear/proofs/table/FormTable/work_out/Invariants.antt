use Rattle.std.proofs.Common.{◌≡◌, length}
use Rattle.term_store.specs.Store.{Grows}
use Rattle.store_entries.specs.Entries.{AreEntries}
use Rattle.store_linear.proofs.table.FormTable.work_out.Given as goal

abbrev pub invariant-terms : goal.invariant-terms
invariant-terms l = record {
  grows : Grows l.fn.store l.store;
  entries : AreEntries l.store l.self.entries.items;
  next : length l.self.entries.items ≡ l.id;
}
