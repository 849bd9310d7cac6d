use Rattle.std.proofs.Common.{map, ◌∙◌}
use Rattle.std.specs.List.{filter, flat_map}
use Rattle.instance_rules.specs.Instances.{is_closed_within, places_in}
use Rattle.instance_laws.specs.Laws.{gathered}
use Rattle.term_store.specs.Store.{tree_at}
use Rattle.store_places.proofs.Gathering.{index_in_order}
use Rattle.store_places.proofs.places.index_terms.Goals as goal

pub returns : goal.returns
returns c =
    let store = c.args.store.now in
    let facts = c.args.sequent.now.facts in record {
      within = c.in_ok-add_places.ensures.found.within;
      trees = index_in_order (map (tree_at store) facts) (tree_at store c.args.sequent.now.goal) (map (tree_at store) c.add_all.new.found.ids) (map (tree_at store) c.add_places.new.found.ids)
          (c.in_ok-add_all.ensures.places ∙ (λ i. gathered (map (tree_at store) (c.new.ensures i)) (filter (is_closed_within 0) (flat_map places_in (map (tree_at store) (c.as_slice.ensures i)))))) c.in_ok-add_places.ensures.places;
    }
