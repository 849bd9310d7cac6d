use Rattle.std.proofs.Common.{◌++◌, get_or, [], ap, ◌∙◌}
use Rattle.leg_rules.specs.Legs.{entry_and_requires}
use Rattle.leg_items.specs.Drafts.{items_of}
use Rattle.leg_orders.specs.Places.{program_of}
use Rattle.leg_paths.specs.Initial.{all_fixed}
use Rattle.leg_paths.proofs.Walks.{if_ok_map}
use Rattle.legs.specs.Legs.{own_method, paths}
use Rattle.legs.proofs.Whole.{leg_is}
use Rattle.legs.proofs.all.items_at.Goals as goal

pub returns : goal.returns
returns c =
    let typed = c.args.typed.now in
    let m = c.args.own.now in
    let drafts = items_of c.add_items.new.out in
    if_ok_map c.with_initial_values.result _ _
    (λ items h. leg_is typed m c.args.method c.args.number c.scope_of.result drafts (items_of items) c.requires c.scope_of.ensures
    (λ small there. c.in_ok-add_items.ensures small there
    ∙ ap (λ l. items_of l ++ (entry_and_requires (program_of typed) (own_method typed m) ++ get_or (paths typed m) c.args.number [])) c.new-items.ensures)
    (h ∙ ap (λ globals. all_fixed c.scope_of.result m.node.0 drafts 0 globals ++ drafts) c.as_slice.ensures))
    c.with_initial_values.ensures
