use Rattle.type_faults.proofs.First.{for_all}
use Rattle.type_faults.proofs.laws.first_stands_for_all.Goals as goal

pub returns : goal.returns
returns c = for_all
