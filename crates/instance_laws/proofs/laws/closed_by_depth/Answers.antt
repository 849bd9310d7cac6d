use Rattle.instance_laws.proofs.Depths.{closed_by_depth}
use Rattle.instance_laws.proofs.laws.closed_by_depth.Goals as goal

pub returns : goal.returns
returns c = closed_by_depth
