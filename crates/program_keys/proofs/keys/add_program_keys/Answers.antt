use Rattle.std.proofs.Common.{arith, refl, ◌<◌, ◌≤◌, length}
use Rattle.leg_orders.specs.Places.{program_of, method_of}
use Rattle.program_keys.specs.Keys.{bytes_of}
use Rattle.program_keys.proofs.Adding.{methods_counted, method_added, methods_added, none_added}
use Rattle.program_keys.proofs.keys.add_program_keys.Goals as goal

pub loop-number-init : goal.loop-number-init
loop-number-init c = none_added (bytes_of c.args.keys.now)

pub loop-number-preserved : goal.loop-number-preserved
loop-number-preserved c =
    let typed = c.args.typed.now in
    let inside : c.loop-number.number < length (program_of typed).methods =
    omega (arith, c.loop-number-test.true, c.len-number-end.ensures, methods_counted typed) in
    method_added (program_of typed) c.loop-number.number (method_of typed c.loop-number.number) (bytes_of c.args.keys.now) (bytes_of c.loop-number.keys)
    (bytes_of c.add_keys_at.new.keys) inside refl c.loop-number.invariant c.in-Ok.ensures

pub returns : goal.returns
returns c =
    let typed = c.args.typed.now in
    let all : length (program_of typed).methods ≤ c.loop-number.number =
    omega (arith, c.loop-number-test.false, c.len-number-end.ensures, methods_counted typed) in
    methods_added (program_of typed) c.loop-number.number (bytes_of c.args.keys.now) (bytes_of c.loop-number.keys) all c.loop-number.invariant
