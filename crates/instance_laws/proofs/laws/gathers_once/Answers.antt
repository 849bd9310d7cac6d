use Rattle.instance_laws.proofs.Gathered.{gathers_once}
use Rattle.instance_laws.proofs.laws.gathers_once.Goals as goal

pub returns : goal.returns
returns c = gathers_once
