use Rattle.std.proofs.Common.{refl}
use Rattle.key_depths.specs.Depths.{depth_limit}
use Rattle.key_reader.proofs.legs.deepest.Goals as goal

pub returns : goal.returns
unfolding depth_limit
returns c = refl
