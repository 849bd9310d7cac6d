use Rattle.std.proofs.Common.{◌<◌, ◌+◌, [], ◌∷◌, ◌++◌, length, map, take, ap, ap₂, sym, ◌∙◌, arith}
use Rattle.std.proofs.lemmas.List.{map-append, map_more}
use Rattle.leg_rules.specs.LegNames.{own}
use Rattle.leg_items.specs.Names.{kind_of, leg_name}
use Rattle.leg_paths.proofs.statements.own_names.Goals as goal

pub loop-number-preserved : goal.loop-number-preserved
loop-number-preserved c =
    let numbers = c.args.numbers.now in
    let i = c.loop-number.number-index in
    let below : i < length numbers = omega (arith, c.loop-number-test.true) in
    ap (map leg_name) c.in_ok-push.ensures.ok ∙ map-append leg_name c.loop-number.names (c.name.result ∷ [])
    ∙ ap₂ (λ ns m. ns ++ m ∷ []) c.loop-number.invariant c.name.ensures
    ∙ sym (ap (map own) (map_more (kind_of c.args.scope) numbers i _ below) ∙ map-append own (map (kind_of c.args.scope) (take i numbers)) _)
