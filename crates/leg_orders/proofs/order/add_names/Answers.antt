use Rattle.std.proofs.Common.{map, take, length, ◌<◌, sym, ap, ◌∙◌, arith, subst}
use Rattle.std.proofs.lemmas.List.{map-append, take_more}
use Rattle.leg_rules.specs.Numbering.{of_variable}
use Rattle.leg_items.specs.Names.{leg_name}
use Rattle.leg_orders.specs.Walks.{Follows}
use Rattle.leg_orders.proofs.Walks.{follows_nothing, follows_then}
use Rattle.leg_orders.proofs.order.add_names.Goals as goal

pub loop-name-init : goal.loop-name-init
loop-name-init c = follows_nothing c.args.typed.now c.args.method c.args.order.now c.requires

pub loop-name-preserved : goal.loop-name-preserved
loop-name-preserved c =
    let names = c.args.names.now in
    let i = c.loop-name.name-index in
    let below : i < length names = omega (arith, c.loop-name-test.true) in
    subst (Follows c.args.typed.now c.args.method c.args.order.now c.add_name.new.order)
    (sym (ap (λ l. map of_variable (map leg_name l)) (take_more names i _ below) ∙ ap (map of_variable) (map-append leg_name (take i names) _)
    ∙ map-append of_variable (map leg_name (take i names)) _))
    (follows_then c.args.typed.now c.args.method c.args.order.now c.loop-name.order c.add_name.new.order (map of_variable (map leg_name (take i names))) _
    c.loop-name.invariant c.in_ok-add_name.ensures)
