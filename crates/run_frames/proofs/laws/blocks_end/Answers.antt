use Rattle.run_frames.proofs.Steps.{block_ends}
use Rattle.run_frames.proofs.laws.blocks_end.Goals as goal

pub returns : goal.returns
returns c = λ limit program next method path n frames values h. block_ends program method path n frames limit next values h
