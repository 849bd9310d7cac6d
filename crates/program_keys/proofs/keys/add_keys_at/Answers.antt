use Rattle.std.proofs.Common.{subst}
use Rattle.std.proofs.lemmas.Result.{on_ok_weaker}
use Rattle.leg_orders.specs.Places.{program_of, method_of}
use Rattle.program_keys.specs.Keys.{AreAdded, bytes_of, method_legs}
use Rattle.program_keys.proofs.keys.add_keys_at.Goals as goal

pub returns-in-Ok : goal.returns-in-Ok
returns-in-Ok c =
    on_ok_weaker c.add_method_keys.result
    (subst
    (λ n. AreAdded (method_legs (program_of c.args.typed.now) (method_of c.args.typed.now n)) (bytes_of c.args.keys.now) (bytes_of c.add_method_keys.new.keys))
    c.in-Ok.ensures.1) c.add_method_keys.ensures
