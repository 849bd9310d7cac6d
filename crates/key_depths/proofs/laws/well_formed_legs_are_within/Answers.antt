use Rattle.key_depths.proofs.Heights.{well_formed_legs_are_within as law}
use Rattle.key_depths.proofs.laws.well_formed_legs_are_within.Goals as goal

pub returns : goal.returns
returns c = law
