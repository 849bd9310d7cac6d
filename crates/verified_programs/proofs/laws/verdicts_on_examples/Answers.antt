use Rattle.verified_programs.proofs.Examples.{verdict_examples}
use Rattle.verified_programs.proofs.laws.verdicts_on_examples.Goals as goal

pub returns : goal.returns
returns c = verdict_examples
