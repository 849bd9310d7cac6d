use Rattle.verified_runs.proofs.Commands.{verified_runs_do_not_fail as law}
use Rattle.verified_runs.proofs.laws.verified_runs_do_not_fail.Goals as goal

pub returns : goal.returns
returns c = law
