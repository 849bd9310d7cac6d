use Rattle.instance_rules.proofs.Ending.{opening_ends}
use Rattle.instance_rules.proofs.laws.opening_ends.Goals as goal

pub returns : goal.returns
returns c = opening_ends
