use Rattle.program_numbers.proofs.Programs.{numbered_typed}
use Rattle.program_numbers.proofs.laws.numbered_projects_are_typed.Goals as goal

pub returns : goal.returns
returns c = numbered_typed
