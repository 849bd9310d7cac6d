use Rattle.std.proofs.Common.{◌≡◌, ◌∙◌, arith, length, sym}
use Rattle.typed_names.proofs.Places.{place_end, place_here, place_next}
use Rattle.typed_names.proofs.fields.place_among.Goals as goal

pub loop-at-preserved : goal.loop-at-preserved
loop-at-preserved c =
    place_next c.args.fields.now c.args.name.now c.loop-at.at c.index-fields-at.result c.loop-at-test.true c.index-fields-at.is
    (sym c.if-is_named.ensures) c.loop-at.invariant

pub returns-then-is_named : goal.returns-then-is_named
returns-then-is_named c =
    place_here c.args.fields.now c.args.name.now c.loop-at.at c.index-fields-at.result c.loop-at-test.true c.index-fields-at.is
    (sym c.if-is_named.ensures) c.loop-at.invariant

pub returns : goal.returns
returns c =
    let ends : length c.args.fields.now ≡ c.loop-at.at = omega (arith, c.loop-at-test.false, c.loop-at.auto.at-end) in
    ends ∙ place_end c.args.fields.now c.args.name.now c.loop-at.at ends c.loop-at.invariant
