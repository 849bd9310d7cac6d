use Rattle.claim_typing.proofs.ClaimTypes.{claims_typed}
use Rattle.claim_typing.proofs.laws.claims_are_typed.Goals as goal

pub returns : goal.returns
returns c = claims_typed
