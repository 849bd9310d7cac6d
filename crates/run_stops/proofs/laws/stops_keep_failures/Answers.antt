use Rattle.run_stops.proofs.Failures.{failures_agree}
use Rattle.run_stops.proofs.laws.stops_keep_failures.Goals as goal

pub returns : goal.returns
returns c = λ records values expr. failures_agree records values expr
