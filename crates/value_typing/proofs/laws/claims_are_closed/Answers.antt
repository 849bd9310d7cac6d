use Rattle.value_typing.proofs.Closed.{claims_closed}
use Rattle.value_typing.proofs.laws.claims_are_closed.Goals as goal

pub returns : goal.returns
returns c = claims_closed
