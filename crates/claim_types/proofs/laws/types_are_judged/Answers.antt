use Rattle.claim_types.proofs.Typing.{judged_as, typed}
use Rattle.claim_types.proofs.laws.types_are_judged.Goals as goal

pub returns : goal.returns
returns c = λ records types a t. (typed records types a t, judged_as records types a t)
