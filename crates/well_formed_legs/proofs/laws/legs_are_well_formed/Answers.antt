use Rattle.well_formed_legs.proofs.Methods.{legs_well_formed}
use Rattle.well_formed_legs.proofs.laws.legs_are_well_formed.Goals as goal

pub returns : goal.returns
returns c = λ program node_files files typed number there. legs_well_formed program node_files files typed number there
