use Rattle.key_rules.proofs.Keys.{only_keys_are_read as law}
use Rattle.key_rules.proofs.laws.only_keys_are_read.Goals as goal

pub returns : goal.returns
returns c = law
