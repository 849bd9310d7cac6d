use Rattle.run_frames.proofs.Steps.{takes_turn}
use Rattle.run_frames.proofs.laws.statements_take_turns.Goals as goal

pub returns : goal.returns
returns c = λ limit program more method path n frames values code h. takes_turn program method path n frames limit more values code h
