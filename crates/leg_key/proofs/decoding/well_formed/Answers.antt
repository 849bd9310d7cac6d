use Rattle.leg_key.proofs.Decoded.{tested_is}
use Rattle.leg_key.proofs.decoding.well_formed.Goals as goal

pub returns-in-Ok : goal.returns-in-Ok
returns-in-Ok c = tested_is c.args.leg c.in-Ok.is_kept c.kept.result c.in-Ok.ensures c.kept.ensures
