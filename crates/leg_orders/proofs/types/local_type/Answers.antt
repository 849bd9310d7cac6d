use Rattle.std.proofs.Common.{sym}
use Rattle.leg_orders.proofs.FoundTypes.{local_missing}
use Rattle.leg_orders.proofs.types.local_type.Goals as goal

pub returns-in-None : goal.returns-in-None
returns-in-None c = local_missing c.args.typed.now c.args.number c.args.place (sym c.in-None.ensures.value)
