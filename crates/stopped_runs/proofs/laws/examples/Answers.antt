use Rattle.stopped_runs.proofs.Examples.{run_examples as law}
use Rattle.stopped_runs.proofs.laws.examples.Goals as goal

pub returns : goal.returns
returns c = law
