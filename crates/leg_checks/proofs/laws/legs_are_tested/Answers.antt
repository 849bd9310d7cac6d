use Rattle.leg_checks.proofs.Tested.{passes_told, passes_tested}
use Rattle.leg_checks.proofs.laws.legs_are_tested.Goals as goal

pub returns : goal.returns
returns c = λ leg. (passes_told leg, passes_tested leg)
