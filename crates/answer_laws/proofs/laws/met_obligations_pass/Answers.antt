use Rattle.answer_laws.proofs.Passing.{obligations_pass}
use Rattle.answer_laws.proofs.laws.met_obligations_pass.Goals as goal

pub returns : goal.returns
returns c = λ leg typed met. obligations_pass leg typed met
