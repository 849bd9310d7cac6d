use Rattle.readable_legs.proofs.Forms.{legs_readable}
use Rattle.readable_legs.proofs.laws.well_formed_legs_are_readable.Goals as goal

pub returns : goal.returns
returns c = legs_readable
