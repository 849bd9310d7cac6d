use Rattle.value_typing.proofs.Kept.{values_keep_claims}
use Rattle.value_typing.proofs.laws.values_keep_claims.Goals as goal

pub returns : goal.returns
returns c = values_keep_claims
