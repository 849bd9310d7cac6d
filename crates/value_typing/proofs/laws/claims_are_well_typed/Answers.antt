use Rattle.value_typing.proofs.WellTyped.{claims_well_typed}
use Rattle.value_typing.proofs.laws.claims_are_well_typed.Goals as goal

pub returns : goal.returns
returns c = claims_well_typed
