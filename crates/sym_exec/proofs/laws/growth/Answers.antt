use Rattle.sym_exec.proofs.Places.{growth_laws}
use Rattle.sym_exec.proofs.laws.growth.Goals as goal

pub returns : goal.returns
returns c = growth_laws
