use Rattle.std.proofs.Common.{◌≡◌, drop, map}
use Rattle.std.specs.List.{list_all}
use Rattle.lk_claims.specs.Claim.{value_type}
use Rattle.lk_programs.specs.LegData.{item_tree}
use Rattle.claim_types.specs.Views.{records_of}
use Rattle.item_checks.specs.Tests.{item_passes}
use Rattle.item_checks.proofs.items.items_pass.Given as goal

-- The items so far pass.
abbrev pub invariant-loop-item : goal.invariant-loop-item
invariant-loop-item l =
    list_all (item_passes (records_of l.records) (map value_type l.vars)) (map item_tree l.items)
    ≡ list_all (item_passes (records_of l.records) (map value_type l.vars)) (map item_tree (drop l.item-index l.items))
