use Rattle.run_stops.proofs.Examples.{stop_examples}
use Rattle.run_stops.proofs.laws.stops_on_examples.Goals as goal

pub returns : goal.returns
returns c = stop_examples
