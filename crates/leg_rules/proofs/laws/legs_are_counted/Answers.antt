use Rattle.leg_rules.proofs.Counts.{legs_counted}
use Rattle.leg_rules.proofs.laws.legs_are_counted.Goals as goal

pub returns : goal.returns
returns c = λ program method. legs_counted program method
