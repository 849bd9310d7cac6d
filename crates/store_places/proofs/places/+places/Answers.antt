use Rattle.std.proofs.Common.{map, get_or, false, refl, ap, sym, subst, ◌∙◌}
use Rattle.term_store.specs.Store.{tree_at}
use Rattle.store_places.specs.Found.{closed_places, AllFound}
use Rattle.store_places.proofs.Gathering.{gathered_next, gathered_by_parts, nothing_more, all_found, IsFound-done}
use Rattle.store_places.proofs.places.+places.Goals as goal

pub add_all-loop-place-preserved : goal.add_all-loop-place-preserved
add_all-loop-place-preserved t c =
    let store = c.args.store.now in (
      gathered_next store c.args.ids.now c.loop-place.place 0 (map (tree_at store) c.args.found.now.ids) (map (tree_at store) c.loop-place.found.ids) (map (tree_at store) c.add_places.new.found.ids) c.loop-place-test.true
          c.loop-place.invariant.0 c.in_ok-add_places.ensures.places,
      c.in_ok-add_places.ensures.found,
    )

pub add_places-returns-then-is_done-clause-places : goal.add_places-returns-then-is_done-clause-places
add_places-returns-then-is_done-clause-places t c =
    let store = c.args.store.now in
    nothing_more (map (tree_at store) c.args.found.now.ids) (closed_places (tree_at store c.args.id))
    (c.requires.found.done c.args.id c.requires.within (ap (λ bs. get_or bs c.args.id false) (sym c.as_slice.ensures.value) ∙ sym c.is_done.ensures ∙ c.if-is_done.true))

pub add_places-returns-clause-places : goal.add_places-returns-clause-places
add_places-returns-clause-places t c =
    let store = c.args.store.now in
    gathered_by_parts store c.args.id c.view.result.now c.as_slice-2.result.now (map (tree_at store) c.args.found.now.ids) (map (tree_at store) c.add_own.new.found.ids) (map (tree_at store) c.add_all.new.found.ids) c.view.ensures.placed
    (c.as_slice-2.ensures.value ∙ c.in_ok-parts.ensures) c.in_ok-add_own.ensures.places c.in_ok-add_all.ensures.places

pub add_places-returns-clause-found : goal.add_places-returns-clause-found
add_places-returns-clause-found t c =
    let store = c.args.store.now in
    let old = map (tree_at store) c.args.found.now.ids in
    let places = closed_places (tree_at store c.args.id) in
    let is =
    gathered_by_parts store c.args.id c.view.result.now c.as_slice-2.result.now old (map (tree_at store) c.add_own.new.found.ids) (map (tree_at store) c.add_all.new.found.ids) c.view.ensures.placed
    (c.as_slice-2.ensures.value ∙ c.in_ok-parts.ensures) c.in_ok-add_own.ensures.places c.in_ok-add_all.ensures.places in
    IsFound-done store c.add_all.new.found _ c.args.id c.in_ok-add_all.ensures.found c.requires.within (subst (λ ts. AllFound ts places) (sym is) (all_found old places)) refl refl
