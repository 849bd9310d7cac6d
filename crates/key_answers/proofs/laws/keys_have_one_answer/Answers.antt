use Rattle.key_answers.proofs.Keys.{keys_have_one_answer as law}
use Rattle.key_answers.proofs.laws.keys_have_one_answer.Goals as goal

pub returns : goal.returns
returns c = law
