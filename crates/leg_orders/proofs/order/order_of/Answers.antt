use Rattle.std.proofs.Common.{[], ap, ap₂, sym, ◌∙◌}
use Rattle.std.specs.List.{flat_map}
use Rattle.leg_rules.specs.Numbering.{item_appears}
use Rattle.leg_items.specs.Drafts.{draft_item, items_of, noted_item}
use Rattle.leg_orders.specs.Places.{method_of, program_of}
use Rattle.leg_orders.specs.Orders.{seen, sees_all}
use Rattle.leg_orders.proofs.Walks.{flat-map, record_order_is, variable_order_is}
use Rattle.leg_orders.proofs.order.order_of.Goals as goal

pub returns-clause-variables : goal.returns-clause-variables
returns-clause-variables c =
    let program = program_of c.args.typed.now in
    let own = method_of c.args.typed.now c.args.method in
    let drafts = c.args.drafts.now in
    let new = c.add_drafts.new.order in
    variable_order_is program own new.names new.records (items_of drafts)
    (c.in_ok-add_drafts.ensures.more
    ∙ ap₂ (λ n r. sees_all program own (seen n r) (flat_map (λ item. item_appears (draft_item item.draft)) drafts)) c.new.ensures c.new-2.ensures
    ∙ ap (sees_all program own (seen [] [])) (sym (flat-map (λ noted. item_appears noted.item) noted_item drafts)))

pub returns-clause-records : goal.returns-clause-records
returns-clause-records c =
    let program = program_of c.args.typed.now in
    let own = method_of c.args.typed.now c.args.method in
    let drafts = c.args.drafts.now in
    let new = c.add_drafts.new.order in
    record_order_is program own new.names new.records (items_of drafts)
    (c.in_ok-add_drafts.ensures.more
    ∙ ap₂ (λ n r. sees_all program own (seen n r) (flat_map (λ item. item_appears (draft_item item.draft)) drafts)) c.new.ensures c.new-2.ensures
    ∙ ap (sees_all program own (seen [] [])) (sym (flat-map (λ noted. item_appears noted.item) noted_item drafts)))
