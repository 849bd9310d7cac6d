use Rattle.first_faults.proofs.First.{text_has_no_stop as law}
use Rattle.first_faults.proofs.laws.text_has_no_stop.Goals as goal

pub returns : goal.returns
returns c = law
