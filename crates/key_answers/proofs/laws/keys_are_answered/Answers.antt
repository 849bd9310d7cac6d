use Rattle.key_answers.proofs.Keys.{keys_are_answered as law}
use Rattle.key_answers.proofs.laws.keys_are_answered.Goals as goal

pub returns : goal.returns
returns c = law
