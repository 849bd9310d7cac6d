use Rattle.run_frames.proofs.Steps.{loop_goes_on}
use Rattle.run_frames.proofs.laws.loops_go_on.Goals as goal

pub returns : goal.returns
returns c = λ program method path n frames values node test modifies invariants body h. loop_goes_on program method path n frames node test modifies invariants body h values
