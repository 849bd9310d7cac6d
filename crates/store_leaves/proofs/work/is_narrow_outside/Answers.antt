use Rattle.std.proofs.Common.{◌<◌, length, Some, sym, ap, ◌∙◌, arith}
use Rattle.std.proofs.lemmas.Option.{slice_get-get_or}
use Rattle.closing.specs.Literals.{is_narrow_outside}
use Rattle.term_sorts.specs.Types.{record_types, types_of}
use Rattle.term_store.proofs.Stores.{Grows-tree_at}
use Rattle.store_canonical.proofs.Kept.{AreCanonical-grows}
use Rattle.store_outside.proofs.Kept.{AreNarrowOutside-grows}
use Rattle.store_leaves.proofs.Kept.{with_forms}
use Rattle.store_leaves.proofs.work.is_narrow_outside.Goals as goal

pub returns-in_err-work_out-clause-work : goal.returns-in_err-work_out-clause-work
returns-in_err-work_out-clause-work c =
    with_forms (record_types c.args.records.now) (types_of c.args.symbols.now) c.args.store.now c.work_out.new.store c.args.work.now c.work_out.new.self
    c.work_out.ensures.grows c.requires.work c.work_out.ensures.entries

pub work_out-requires-2-clause-narrow : goal.work_out-requires-2-clause-narrow
work_out-requires-2-clause-narrow c =
    AreNarrowOutside-grows (record_types c.args.records.now) (types_of c.args.symbols.now) c.args.store.now c.work_out.new.store
    c.args.work.now.outside.narrow.items c.work_out.ensures.grows c.requires.work.outside

pub returns-in_err-work_out-2-clause-work : goal.returns-in_err-work_out-2-clause-work
returns-in_err-work_out-2-clause-work c = record {
  forms = c.work_out.ensures.entries;
  canonical = AreCanonical-grows (record_types c.args.records.now) (types_of c.args.symbols.now) c.args.store.now c.work_out.new.store
      c.args.work.now.canonical.ids.items c.work_out.ensures.grows c.requires.work.canonical;
  outside = c.work_out-2.ensures.narrow;
}

pub returns-clause-narrow : goal.returns-clause-narrow
returns-clause-narrow c =
    let answers = c.work_out-2.new.self.narrow.items in
    let id = c.args.id in
    let l : id < length answers = let all = c.in_ok-work_out-2.ensures.all in omega (arith, all) in
    c.work_out-2.ensures.narrow.at id c.index.result.now (slice_get-get_or answers id c.index.result.now l ∙ ap Some (sym c.index.ensures))
    ∙ ap (is_narrow_outside (record_types c.args.records.now) (types_of c.args.symbols.now))
    (Grows-tree_at c.args.store.now c.work_out.new.store id c.work_out.ensures.grows c.requires.within)

pub returns-clause-work : goal.returns-clause-work
returns-clause-work c = record {
  forms = c.work_out.ensures.entries;
  canonical = AreCanonical-grows (record_types c.args.records.now) (types_of c.args.symbols.now) c.args.store.now c.work_out.new.store
      c.args.work.now.canonical.ids.items c.work_out.ensures.grows c.requires.work.canonical;
  outside = c.work_out-2.ensures.narrow;
}
