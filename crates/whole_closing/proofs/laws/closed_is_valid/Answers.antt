use Rattle.whole_closing.proofs.Soundness.{closed_is_valid}
use Rattle.whole_closing.proofs.laws.closed_is_valid.Goals as goal

pub returns : goal.returns
returns c = closed_is_valid
