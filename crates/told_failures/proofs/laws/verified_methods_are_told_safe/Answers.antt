use Rattle.told_failures.proofs.Told.{verified_methods_are_told_safe as law}
use Rattle.told_failures.proofs.laws.verified_methods_are_told_safe.Goals as goal

pub returns : goal.returns
returns c = law
