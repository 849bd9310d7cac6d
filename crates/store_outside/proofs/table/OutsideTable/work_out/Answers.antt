use Rattle.std.proofs.Common.{◌<◌, length, sym, ap, subst, arith}
use Rattle.std.proofs.lemmas.List.{length_push}
use Rattle.term_sorts.specs.Types.{types_of, record_types}
use Rattle.store_outside.specs.Outside.{AreNarrowOutside}
use Rattle.store_outside.proofs.Kept.{one_answer_more}
use Rattle.store_outside.proofs.table.OutsideTable.work_out.Goals as goal

pub terms-preserved : goal.terms-preserved
terms-preserved c =
    let records = record_types c.args.records.now in
    let types = types_of c.args.symbols.now in
    let answers = c.terms.self.narrow.items in
    let here : c.terms.id < length c.args.store.now = omega (arith, c.requires.entries.within, c.terms-test.true, c.requires.count) in
    record {
      narrow =
          subst (AreNarrowOutside records types c.args.store.now) (sym c.in_ok-push.ensures.items)
          (one_answer_more records types c.args.store.now answers c.terms.id c.is_narrow_outside-narrow.result c.terms.invariant.narrow (sym c.terms.invariant.next) here c.is_narrow_outside-narrow.ensures);
      next = omega (arith, c.terms.invariant.next, ap length c.in_ok-push.ensures.items, length_push answers c.is_narrow_outside-narrow.result);
    }
