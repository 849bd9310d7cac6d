use Rattle.first_faults.proofs.First.{fronts_go_on as law}
use Rattle.first_faults.proofs.laws.fronts_go_on.Goals as goal

pub returns : goal.returns
returns c = law
