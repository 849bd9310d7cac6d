use Rattle.std.proofs.Common.{arith}
use Rattle.legs.proofs.Whole.{all_legs}
use Rattle.legs.proofs.all.add_legs.Goals as goal

pub loop-number-preserved : goal.loop-number-preserved
loop-number-preserved c =
    c.in_ok-add_leg.ensures (omega (arith, c.loop-number-test.true, c.requires.few))
    (omega (arith, c.loop-number-test.true, c.requires.counted)) c.loop-number.invariant

pub returns : goal.returns
returns c =
    all_legs c.args.typed.now c.args.method c.loop-number.number c.loop-number.out
    (omega (arith, c.loop-number-test.false, c.requires.counted)) c.loop-number.invariant
