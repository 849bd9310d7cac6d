use Rattle.std.proofs.Common.{◌∷◌, [], map, refl, ap, sym, subst, ◌∙◌}
use Rattle.std.specs.List.{filter, list_any}
use Rattle.std.proofs.Math.Dec.{eqb}
use Rattle.instance_rules.specs.Instances.{is_closed_within}
use Rattle.term_store.specs.Store.{tree_at, AreWithin}
use Rattle.store_places.proofs.Gathering.{added, not_closed, found_before, IsFound-more, within_push}
use Rattle.store_places.proofs.places.add_place.Goals as goal
use Rattle.store_places.proofs.places.add_place.Goals.{then-depths-id-gt0-via-then-depths-id-gt0, then-depths-id-gt0-via-else-depths-id-gt0+then-contains}

pub returns-then-depths-id-gt0-clause-places : goal.returns-then-depths-id-gt0-clause-places
returns-then-depths-id-gt0-clause-places c =
    let store = c.args.store.now in
    let ids = c.args.found.now.ids in
    elim c.then-depths-id-gt0.branch [
      | then-depths-id-gt0-via-then-depths-id-gt0 w ↦ not_closed store c.args.depths.now (map (tree_at store) ids) c.args.id c.requires.measured c.requires.all c.requires.within w.if-depths-id-gt0.true
      | then-depths-id-gt0-via-else-depths-id-gt0+then-contains w ↦ found_before store ids c.args.id c.requires.is_store c.requires.within c.requires.found.within
          (ap (list_any (λ k. eqb k c.args.id)) (sym w.as_slice.ensures) ∙ sym w.contains.ensures ∙ w.if-contains.true)
    ]

pub returns-clause-places : goal.returns-clause-places
returns-clause-places c =
    let store = c.args.store.now in
    let ids = c.args.found.now.ids in
    ap (map (tree_at store)) c.in_ok-push.ensures.ok
    ∙ added store c.args.depths.now ids c.args.id c.requires.is_store c.requires.measured c.requires.all c.requires.within c.requires.found.within c.if-depths-id-gt0.false
    (ap (list_any (λ k. eqb k c.args.id)) (sym c.as_slice.ensures) ∙ sym c.contains.ensures ∙ c.if-contains.false)

pub returns-clause-found : goal.returns-clause-found
returns-clause-found c =
    let store = c.args.store.now in
    let old = c.args.found.now in
    let places =
    ap (map (tree_at store)) c.in_ok-push.ensures.ok
    ∙ added store c.args.depths.now old.ids c.args.id c.requires.is_store c.requires.measured c.requires.all c.requires.within c.requires.found.within c.if-depths-id-gt0.false
    (ap (list_any (λ k. eqb k c.args.id)) (sym c.as_slice.ensures) ∙ sym c.contains.ensures ∙ c.if-contains.false) in
    IsFound-more store old (record { ids = c.push.new.self; done = old.done }) (filter (is_closed_within 0) (tree_at store c.args.id ∷ [])) c.requires.found
    (subst (AreWithin store) (sym c.in_ok-push.ensures.ok) (within_push store old.ids c.args.id c.requires.found.within c.requires.within)) places refl
