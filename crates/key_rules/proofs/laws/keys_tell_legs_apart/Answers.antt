use Rattle.key_rules.proofs.Keys.{keys_tell_legs_apart as law}
use Rattle.key_rules.proofs.laws.keys_tell_legs_apart.Goals as goal

pub returns : goal.returns
returns c = law
