use Rattle.key_depths.proofs.Keys.{keys_are_read_within as law}
use Rattle.key_depths.proofs.laws.keys_are_read_within.Goals as goal

pub returns : goal.returns
returns c = law
