use Rattle.std.proofs.Common.{◌≡◌, map, drop}
use Rattle.lk_claims.specs.Claim.{value_type}
use Rattle.lk_programs.specs.LegData.{item_tree}
use Rattle.leg_appearances.specs.Laws.{nothing}
use Rattle.leg_appearances.specs.Seen.{all_seen, items_appearing}
use Rattle.leg_appearances.proofs.items.items_seen.Given as goal

-- The items so far have appeared.
abbrev pub invariant-loop-item : goal.invariant-loop-item
invariant-loop-item l =
    all_seen l.table (map value_type l.vars) nothing (items_appearing (map item_tree l.items))
    ≡ all_seen l.table (map value_type l.vars) l.so_far (items_appearing (map item_tree (drop l.item-index l.items)))
