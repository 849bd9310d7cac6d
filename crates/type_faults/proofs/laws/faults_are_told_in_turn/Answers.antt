use Rattle.type_faults.proofs.First.{in_turn}
use Rattle.type_faults.proofs.laws.faults_are_told_in_turn.Goals as goal

pub returns : goal.returns
returns c = in_turn
