use Rattle.std.proofs.Common.{◌<◌, [], ◌∷◌, ◌++◌, length, map, take, ap, ap₂, sym, ◌∙◌, arith}
use Rattle.std.proofs.lemmas.List.{map-append, map_more}
use Rattle.leg_items.specs.Names.{leg_name}
use Rattle.leg_numbers.specs.Numbered.{name_number}
use Rattle.leg_numbers.proofs.numbers.names_numbered.Goals as goal

pub loop-name-preserved : goal.loop-name-preserved
loop-name-preserved c =
    let names = c.args.names.now in
    let i = c.loop-name.name-index in
    let below : i < length names = omega (arith, c.loop-name-test.true) in
    c.in_ok-push.ensures.ok ∙ ap₂ (λ ns m. ns ++ m ∷ []) c.loop-name.invariant c.in_ok-number_of_name.ensures
    ∙ sym (ap (map (name_number c.args.order.now)) (map_more leg_name names i _ below) ∙ map-append (name_number c.args.order.now) (map leg_name (take i names)) _)
