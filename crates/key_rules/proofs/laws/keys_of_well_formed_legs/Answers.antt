use Rattle.key_rules.proofs.Keys.{keys_of_well_formed_legs as law}
use Rattle.key_rules.proofs.laws.keys_of_well_formed_legs.Goals as goal

pub returns : goal.returns
returns c = law
