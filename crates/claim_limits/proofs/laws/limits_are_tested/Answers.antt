use Rattle.claim_limits.proofs.Testing.{passes, tells}
use Rattle.claim_limits.proofs.laws.limits_are_tested.Goals as goal

pub returns : goal.returns
returns c = λ h n a. (tells h n a, λ k. passes h n a k.0 k.1)
