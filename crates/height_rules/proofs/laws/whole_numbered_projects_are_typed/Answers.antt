use Rattle.height_rules.proofs.Projects.{whole_numbered_projects_are_typed}
use Rattle.height_rules.proofs.laws.whole_numbered_projects_are_typed.Goals as goal

pub returns : goal.returns
returns c = whole_numbered_projects_are_typed
