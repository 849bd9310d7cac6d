use Rattle.answer_laws.proofs.Verdicts.{verified_passes}
use Rattle.answer_laws.proofs.laws.verified_legs_pass.Goals as goal

pub returns : goal.returns
returns c = λ closing closes accepting accepts program method fine typed h. verified_passes closing accepting closes accepts program method fine typed h
