use Rattle.std.proofs.Common.{ap, map, subst}
use Rattle.leg_orders.specs.Places.{program_of}
use Rattle.program_keys.specs.Keys.{AreAdded, bytes_of, program_legs}
use Rattle.program_keys.proofs.Adding.{keys_of}
use Rattle.program_keys.proofs.keys.program_keys.Goals as goal

pub returns-in-Ok : goal.returns-in-Ok
returns-in-Ok c =
    let legs = program_legs (program_of c.args.typed.now) in
    keys_of legs (bytes_of c.add_program_keys.new.keys)
    (subst (λ old. AreAdded legs old (bytes_of c.add_program_keys.new.keys)) (ap (map (λ key. key.items)) c.new-keys.ensures.items) c.in-Ok.ensures)
