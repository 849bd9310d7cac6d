use Rattle.run_frames.proofs.Steps.{loop_begins}
use Rattle.run_frames.proofs.laws.loops_begin.Goals as goal

pub returns : goal.returns
returns c = λ program method path n frames node test modifies invariants body h. loop_begins program method path n frames node test modifies invariants body h
