use Rattle.project_typing.proofs.Projects.{projects_typed}
use Rattle.project_typing.proofs.laws.projects_are_typed.Goals as goal

pub returns : goal.returns
returns c = projects_typed
