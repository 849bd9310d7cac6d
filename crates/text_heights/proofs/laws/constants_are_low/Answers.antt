use Rattle.text_heights.proofs.Low.{constants_low}
use Rattle.text_heights.proofs.laws.constants_are_low.Goals as goal

pub returns : goal.returns
returns c = constants_low
