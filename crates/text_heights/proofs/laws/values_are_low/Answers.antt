use Rattle.text_heights.proofs.Low.{values_low}
use Rattle.text_heights.proofs.laws.values_are_low.Goals as goal

pub returns : goal.returns
returns c = values_low
