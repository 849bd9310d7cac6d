use Rattle.run_frames.proofs.Steps.{call_begins}
use Rattle.run_frames.proofs.laws.calls_begin.Goals as goal

pub returns : goal.returns
returns c = λ program method callee caller target frames. call_begins program method callee caller target frames
