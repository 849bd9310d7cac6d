use Rattle.key_rules.proofs.Examples.{key_examples as law}
use Rattle.key_rules.proofs.laws.keys_on_examples.Goals as goal

pub returns : goal.returns
returns c = law
