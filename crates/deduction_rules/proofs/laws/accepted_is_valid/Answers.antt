use Rattle.deduction_rules.proofs.Soundness.{accepted_is_valid}
use Rattle.deduction_rules.proofs.laws.accepted_is_valid.Goals as goal

pub returns : goal.returns
returns c = λ closes yes base sorted steps typed claims h. accepted_is_valid closes yes base sorted steps typed claims h
