use Rattle.run_frames.proofs.Steps.{run_waits}
use Rattle.run_frames.proofs.laws.runs_wait.Goals as goal

pub returns : goal.returns
returns c = λ limit program method path n frames values code h. run_waits program method path n frames limit values code h
