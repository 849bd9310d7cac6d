use Rattle.elimination.proofs.Turns.{occurs-next}
use Rattle.elimination.proofs.a_turn_takes_its_variable_away.Goals as goal

pub returns : goal.returns
returns c = occurs-next
