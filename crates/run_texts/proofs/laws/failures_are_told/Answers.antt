use Rattle.run_texts.proofs.Told.{failures_are_told as law}
use Rattle.run_texts.proofs.laws.failures_are_told.Goals as goal

pub returns : goal.returns
returns c = law
