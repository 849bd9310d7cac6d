use Rattle.run_frames.proofs.Steps.{branch_begins}
use Rattle.run_frames.proofs.laws.branches_begin.Goals as goal

pub returns : goal.returns
returns c = λ program method path n frames node test on_true on_false holds h. branch_begins program method path n frames node test on_true on_false holds h
