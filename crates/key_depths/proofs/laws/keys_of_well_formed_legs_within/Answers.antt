use Rattle.key_depths.proofs.Keys.{keys_of_well_formed_legs_within as law}
use Rattle.key_depths.proofs.laws.keys_of_well_formed_legs_within.Goals as goal

pub returns : goal.returns
returns c = law
