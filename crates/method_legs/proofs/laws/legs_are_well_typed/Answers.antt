use Rattle.method_legs.proofs.Legs.{legs_typed}
use Rattle.method_legs.proofs.laws.legs_are_well_typed.Goals as goal

pub returns : goal.returns
returns c = λ program node_files files typed number there. legs_typed program node_files files typed number there
