use Rattle.text_heights.proofs.Low.{claims_low}
use Rattle.text_heights.proofs.laws.claims_are_low.Goals as goal

pub returns : goal.returns
returns c = claims_low
