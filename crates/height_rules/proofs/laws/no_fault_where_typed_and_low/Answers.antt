use Rattle.height_rules.proofs.Projects.{no_fault_where_typed_and_low}
use Rattle.height_rules.proofs.laws.no_fault_where_typed_and_low.Goals as goal

pub returns : goal.returns
returns c = no_fault_where_typed_and_low
