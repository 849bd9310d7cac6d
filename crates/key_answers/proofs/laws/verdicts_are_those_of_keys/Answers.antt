use Rattle.key_answers.proofs.Keys.{verdicts_are_those_of_keys as law}
use Rattle.key_answers.proofs.laws.verdicts_are_those_of_keys.Goals as goal

pub returns : goal.returns
returns c = law
