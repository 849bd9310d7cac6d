use Rattle.std.proofs.Common.{refl}
use Rattle.run_frames.proofs.laws.calls_end.Goals as goal

pub returns : goal.returns
returns c = λ limit program next method callee caller target frames values. refl
