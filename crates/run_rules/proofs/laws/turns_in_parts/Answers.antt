use Rattle.run_rules.proofs.Turns.{run-more}
use Rattle.run_rules.proofs.laws.turns_in_parts.Goals as goal

pub returns : goal.returns
returns c = λ program method arguments globals a b. run-more program method arguments globals a b
