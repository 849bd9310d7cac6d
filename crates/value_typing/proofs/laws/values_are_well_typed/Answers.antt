use Rattle.value_typing.proofs.WellTyped.{values_well_typed}
use Rattle.value_typing.proofs.laws.values_are_well_typed.Goals as goal

pub returns : goal.returns
returns c = values_well_typed
