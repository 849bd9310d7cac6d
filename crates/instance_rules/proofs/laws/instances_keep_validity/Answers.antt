use Rattle.instance_rules.proofs.Instancing.{instances_keep_validity}
use Rattle.instance_rules.proofs.laws.instances_keep_validity.Goals as goal

pub returns : goal.returns
returns c = instances_keep_validity
