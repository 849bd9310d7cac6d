use Rattle.std.proofs.Common.{◌≡◌, length}
use Rattle.term_sorts.specs.Types.{types_of, record_types}
use Rattle.store_outside.specs.Outside.{AreNarrowOutside}
use Rattle.store_outside.proofs.table.OutsideTable.work_out.Given as goal

abbrev pub invariant-terms : goal.invariant-terms
invariant-terms l = record {
  narrow : AreNarrowOutside (record_types l.records) (types_of l.symbols) l.store l.self.narrow.items;
  next : length l.self.narrow.items ≡ l.id;
}
