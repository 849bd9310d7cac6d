use Rattle.stopped_runs.proofs.Turns.{turns_in_parts as law}
use Rattle.stopped_runs.proofs.laws.turns_in_parts.Goals as goal

pub returns : goal.returns
returns c = law
