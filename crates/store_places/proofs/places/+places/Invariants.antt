use Rattle.std.proofs.Common.{◌≡◌, ◌+◌, ◌*◌, map, take}
use Rattle.std.specs.List.{filter, flat_map}
use Rattle.instance_rules.specs.Instances.{is_closed_within, places_in}
use Rattle.instance_laws.specs.Laws.{gathered}
use Rattle.term_store.specs.Store.{tree_at}
use Rattle.store_places.specs.Found.{IsFound}
use Rattle.store_places.proofs.places.+places.Given as goal

abbrev pub decreases-add_places : goal.decreases-add_places
decreases-add_places l = 2 * l.id + 1

abbrev pub decreases-add_all : goal.decreases-add_all
decreases-add_all l = 2 * l.bound

abbrev pub invariant-add_all-loop-place : goal.invariant-add_all-loop-place
invariant-add_all-loop-place l =
    (map (tree_at l.store) l.found.ids ≡ gathered (map (tree_at l.store) l.fn.found.ids) (filter (is_closed_within 0) (flat_map places_in (map (tree_at l.store) (take l.place l.ids))))) × IsFound l.store l.found
