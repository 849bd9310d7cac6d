use Rattle.std.proofs.Common.{◌≡◌, ◌≤◌, length}
use Rattle.term_sorts.specs.Types.{types_of, record_types}
use Rattle.term_store.specs.Store.{Grows}
use Rattle.store_entries.specs.Entries.{AreEntries}
use Rattle.store_canonical.specs.Canonical.{AreCanonical}
use Rattle.store_canonical.proofs.table.CanonicalTable.work_out.Given as goal

abbrev pub invariant-terms : goal.invariant-terms
invariant-terms l = record {
  grows : Grows l.fn.store l.store;
  entries : AreEntries l.store l.entries;
  canonical : AreCanonical (record_types l.records) (types_of l.symbols) l.store l.self.ids.items;
  next : length l.self.ids.items ≡ l.id;
}
