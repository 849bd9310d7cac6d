use Rattle.std.proofs.Common.{◌+◌, sym, subst, take, map}
use Rattle.term_trees.specs.Term.{tree}
use Rattle.term_store.specs.Store.{AreTreesOf}
use Rattle.term_store.proofs.Stores.{Grows-Grows}
use Rattle.term_store.proofs.Gains.{AreTreesOf-more}
use Rattle.stored_sequents.proofs.Places.{at_place}
use Rattle.stored_sequents.proofs.sequents.add_terms.Goals as goal

pub loop-place-preserved : goal.loop-place-preserved
loop-place-preserved c =
    let old = c.loop-place.store in
    let new = c.add.new.self in
    let terms = c.args.terms.now in
    let more = c.in_ok-id.ensures in (
      subst (λ ids. AreTreesOf new ids (take (c.loop-place.place + 1) (map tree terms))) (sym c.in_ok-push.ensures.ok)
          (AreTreesOf-more old new c.loop-place.ids (map tree terms) c.loop-place.place c.in_ok-id.id (tree c.index-terms-place.result) c.loop-place.invariant.0
          more.gains.grows (at_place tree terms c.loop-place.place c.index-terms-place.result c.loop-place-test.true c.index-terms-place.is) more.number),
      Grows-Grows c.args.store.now old new c.loop-place.invariant.1 more.gains.grows,
    )
