use Rattle.type_rules.proofs.First.{first_fault-first}
use Rattle.type_rules.proofs.laws.first_fault_is_first.Goals as goal

pub returns : goal.returns
returns c = first_fault-first
