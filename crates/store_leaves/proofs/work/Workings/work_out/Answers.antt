use Rattle.term_sorts.specs.Types.{record_types, types_of}
use Rattle.term_store.proofs.Stores.{Grows-Grows}
use Rattle.store_entries.proofs.Kept.{AreEntries-grows}
use Rattle.store_canonical.proofs.Kept.{AreCanonical-grows}
use Rattle.store_outside.proofs.Kept.{AreNarrowOutside-grows}
use Rattle.store_leaves.proofs.Kept.{with_forms}
use Rattle.store_leaves.proofs.work.Workings.work_out.Goals as goal

pub returns-in_err-work_out-clause-work : goal.returns-in_err-work_out-clause-work
returns-in_err-work_out-clause-work c =
    with_forms (record_types c.args.records.now) (types_of c.args.symbols.now) c.args.store.now c.work_out.new.store c.args.self.now c.work_out.new.self
    c.work_out.ensures.grows c.requires.work c.work_out.ensures.entries

pub work_out-requires-2-clause-canonical : goal.work_out-requires-2-clause-canonical
work_out-requires-2-clause-canonical c =
    AreCanonical-grows (record_types c.args.records.now) (types_of c.args.symbols.now) c.args.store.now c.work_out.new.store
    c.args.self.now.canonical.ids.items c.work_out.ensures.grows c.requires.work.canonical

pub returns-clause-work : goal.returns-clause-work
returns-clause-work c =
    let old = c.args.store.now in
    let mid = c.work_out.new.store in
    let new = c.work_out-2.new.store in
    record {
      forms = AreEntries-grows mid new c.work_out.new.self.entries.items c.work_out-2.ensures.grows c.work_out.ensures.entries;
      canonical = c.work_out-2.ensures.canonical;
      outside =
          AreNarrowOutside-grows (record_types c.args.records.now) (types_of c.args.symbols.now) old new c.args.self.now.outside.narrow.items
          (Grows-Grows old mid new c.work_out.ensures.grows c.work_out-2.ensures.grows) c.requires.work.outside;
    }
