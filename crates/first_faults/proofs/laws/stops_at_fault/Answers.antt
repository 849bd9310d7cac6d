use Rattle.first_faults.proofs.First.{stops_at_fault as law}
use Rattle.first_faults.proofs.laws.stops_at_fault.Goals as goal

pub returns : goal.returns
returns c = law
