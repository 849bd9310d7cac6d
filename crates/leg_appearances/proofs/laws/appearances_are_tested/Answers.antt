use Rattle.leg_appearances.proofs.Tested.{in_order, from_order}
use Rattle.leg_appearances.proofs.laws.appearances_are_tested.Goals as goal

pub returns : goal.returns
returns c = λ leg table. (in_order leg table, from_order leg table)
