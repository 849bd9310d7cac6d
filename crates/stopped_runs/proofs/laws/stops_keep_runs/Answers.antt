use Rattle.stopped_runs.proofs.Agree.{stops_keep_runs as law}
use Rattle.stopped_runs.proofs.laws.stops_keep_runs.Goals as goal

pub returns : goal.returns
returns c = law
