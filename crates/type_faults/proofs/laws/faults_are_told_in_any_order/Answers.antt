use Rattle.type_faults.proofs.First.{in_any_order}
use Rattle.type_faults.proofs.laws.faults_are_told_in_any_order.Goals as goal

pub returns : goal.returns
returns c = in_any_order
