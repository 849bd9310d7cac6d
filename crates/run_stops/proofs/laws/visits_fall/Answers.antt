use Rattle.run_stops.proofs.Visits.{visits_fall}
use Rattle.run_stops.proofs.laws.visits_fall.Goals as goal

pub returns : goal.returns
returns c = λ records names e t before after h. visits_fall records names e t before after h
