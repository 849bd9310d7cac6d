use Rattle.height_rules.proofs.Projects.{whole_projects_are_typed}
use Rattle.height_rules.proofs.laws.whole_projects_are_typed.Goals as goal

pub returns : goal.returns
returns c = whole_projects_are_typed
