use Rattle.project_rules.proofs.Constants.{constant_types_found}
use Rattle.project_rules.proofs.laws.constant_types_are_found.Goals as goal

pub returns : goal.returns
returns c = constant_types_found
