use Rattle.project_rules.proofs.Projects.{no_fault_where_typed}
use Rattle.project_rules.proofs.laws.no_fault_where_typed.Goals as goal

pub returns : goal.returns
returns c = no_fault_where_typed
