use Rattle.std.proofs.Common.{◌≡◌, ◌<◌, length, map, ap, sym, ◌∙◌, arith}
use Rattle.leg_rules.specs.LegNames.{same_name}
use Rattle.leg_rules.specs.Numbering.{number_in}
use Rattle.leg_items.specs.declared.name.MethodVariable.TheVariants as v
use Rattle.leg_items.specs.declared.name.Name.{Name}
use Rattle.leg_items.specs.declared.name.Name.TheVariants as n
use Rattle.leg_items.specs.Names.{leg_name}
use Rattle.leg_numbers.proofs.Places.{any_default, if_ok_map, told_value, name_at, name_nowhere, one_more_name}
use Rattle.leg_numbers.proofs.numbers.number_of_name.Goals as goal

pub returns-then-same : goal.returns-then-same
returns-then-same c =
    let names = c.as_slice-names.result.now in
    let x = leg_name c.args.name in
    let k = c.loop-place.place in
    let below : k < length names = omega (arith, c.loop-place-test.true) in
    if_ok_map c.number.result (λ m. m ≡ k) _
    (λ m h. h ∙ name_at names x _ k below (λ j l. c.loop-place.invariant j _ l) (sym c.if-same.ensures) ∙ ap (λ l. number_in same_name (map leg_name l) x) c.as_slice-names.ensures)
    (told_value c.number.result _ _ c.number.ensures)

pub loop-place-preserved : goal.loop-place-preserved
loop-place-preserved c =
    let names = c.as_slice-names.result.now in
    let x = leg_name c.args.name in
    let k = c.loop-place.place in
    let below : k < length names = omega (arith, c.loop-place-test.true) in
    one_more_name names x k c.loop-place.invariant (λ d. ap (λ y. same_name x (leg_name y)) (any_default names k d _ below) ∙ sym c.if-same.ensures)

pub returns : goal.returns
returns c =
    let names = c.as_slice-names.result.now in
    let d : Name = n.Own v.Result in
    name_nowhere names (leg_name c.args.name) d c.loop-place.place (omega (arith, c.loop-place-test.false)) (λ j l. c.loop-place.invariant j d l)
    ∙ ap (λ l. number_in same_name (map leg_name l) (leg_name c.args.name)) c.as_slice-names.ensures
