use Rattle.stopped_runs.proofs.Agree.{safe_methods_do_not_fail as law}
use Rattle.stopped_runs.proofs.laws.safe_methods_do_not_fail.Goals as goal

pub returns : goal.returns
returns c = law
