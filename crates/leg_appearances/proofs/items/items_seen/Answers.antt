use Rattle.std.proofs.Common.{map, refl, sym, ◌∙◌}
use Rattle.lk_claims.specs.Claim.{value_type}
use Rattle.lk_programs.specs.LegData.{item_tree}
use Rattle.leg_appearances.specs.Seen.{item_appearing, items_appearing}
use Rattle.leg_appearances.proofs.Joined.{place_goes_on, place_ends}
use Rattle.leg_appearances.proofs.items.items_seen.Goals as goal

pub returns-in-None : goal.returns-in-None
returns-in-None c =
    sym (c.loop-item.invariant
    ∙ place_ends c.args.table.now (map value_type c.args.vars.now) (λ item. item_appearing (item_tree item)) (λ items. items_appearing (map item_tree items))
    (λ item items. refl) c.loop-item.so_far c.args.items.now c.loop-item.item-index c.item-item.result c.with_item.result c.loop-item-test.true
    c.item-item.is c.with_item.ensures c.in-None.is)

pub loop-item-preserved : goal.loop-item-preserved
loop-item-preserved c =
    c.loop-item.invariant
    ∙ place_goes_on c.args.table.now (map value_type c.args.vars.now) (λ item. item_appearing (item_tree item)) (λ items. items_appearing (map item_tree items))
    (λ item items. refl) c.loop-item.so_far c.in-Some.next c.args.items.now c.loop-item.item-index c.item-item.result c.with_item.result
    c.loop-item-test.true c.item-item.is c.with_item.ensures c.in-Some.is
