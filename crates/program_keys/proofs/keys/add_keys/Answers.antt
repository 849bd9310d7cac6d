use Rattle.std.proofs.Common.{arith}
use Rattle.program_keys.specs.Keys.{bytes_of}
use Rattle.program_keys.proofs.Adding.{none_added, formed_at, leg_added, legs_added}
use Rattle.program_keys.proofs.keys.add_keys.Goals as goal

pub loop-leg-init : goal.loop-leg-init
loop-leg-init c = none_added (bytes_of c.args.keys.now)

pub add_key-requires : goal.add_key-requires
add_key-requires c = formed_at c.args.legs.now c.loop-leg.leg-index c.leg-item.result c.requires c.loop-leg-test.true c.leg-item.is

pub loop-leg-preserved : goal.loop-leg-preserved
loop-leg-preserved c =
    leg_added c.args.legs.now c.loop-leg.leg-index c.leg-item.result (bytes_of c.args.keys.now) (bytes_of c.loop-leg.keys) (bytes_of c.add_key.new.keys)
    c.loop-leg-test.true c.leg-item.is c.loop-leg.invariant c.in-Ok.ensures

pub returns : goal.returns
returns c =
    legs_added c.args.legs.now c.loop-leg.leg-index (bytes_of c.args.keys.now) (bytes_of c.loop-leg.keys) (omega arith) c.loop-leg.invariant
