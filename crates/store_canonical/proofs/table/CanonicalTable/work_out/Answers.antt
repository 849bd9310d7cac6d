use Rattle.std.proofs.Common.{◌<◌, length, sym, ap, subst, arith}
use Rattle.std.proofs.lemmas.List.{length_push}
use Rattle.term_sorts.specs.Types.{types_of, record_types}
use Rattle.term_store.proofs.Stores.{Grows-Grows}
use Rattle.store_entries.proofs.Kept.{AreEntries-grows}
use Rattle.store_canonical.specs.Canonical.{AreCanonical}
use Rattle.store_canonical.proofs.Kept.{AreCanonical-grows, AreCanonical-more}
use Rattle.store_canonical.proofs.table.CanonicalTable.work_out.Goals as goal

pub returns-in_err-number-clause-canonical : goal.returns-in_err-number-clause-canonical
returns-in_err-number-clause-canonical c =
    AreCanonical-grows (record_types c.args.records.now) (types_of c.args.symbols.now) c.terms.store c.canonical_of.new.store c.terms.self.ids.items c.canonical_of.ensures.grows c.terms.invariant.canonical

pub returns-in_err-push-clause-canonical : goal.returns-in_err-push-clause-canonical
returns-in_err-push-clause-canonical c =
    subst (AreCanonical (record_types c.args.records.now) (types_of c.args.symbols.now) c.canonical_of.new.store) (sym c.in_err-push.ensures.items)
    (AreCanonical-grows (record_types c.args.records.now) (types_of c.args.symbols.now) c.terms.store c.canonical_of.new.store c.terms.self.ids.items c.in_ok-number.ensures.grows c.terms.invariant.canonical)

pub terms-preserved : goal.terms-preserved
terms-preserved c =
    let records = record_types c.args.records.now in
    let types = types_of c.args.symbols.now in
    let ids = c.terms.self.ids.items in
    let here : c.terms.id < length c.terms.store = omega (arith, c.terms.invariant.entries.within, c.terms-test.true, c.requires.count) in
    record {
      grows = Grows-Grows c.args.store.now c.terms.store c.canonical_of.new.store c.terms.invariant.grows c.in_ok-number.ensures.grows;
      entries = AreEntries-grows c.terms.store c.canonical_of.new.store c.args.entries.now c.in_ok-number.ensures.grows c.terms.invariant.entries;
      canonical =
          subst (AreCanonical records types c.canonical_of.new.store) (sym c.in_ok-push.ensures.items)
          (AreCanonical-more records types c.terms.store c.canonical_of.new.store ids c.terms.id c.in_ok-number.number c.in_ok-number.ensures.grows c.terms.invariant.canonical (sym c.terms.invariant.next) here c.in_ok-number.ensures.number);
      next = omega (arith, c.terms.invariant.next, ap length c.in_ok-push.ensures.items, length_push ids c.in_ok-number.number);
    }
