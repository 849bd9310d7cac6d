use Rattle.key_rules.proofs.Keys.{keys_are_read as law}
use Rattle.key_rules.proofs.laws.keys_are_read.Goals as goal

pub returns : goal.returns
returns c = law
