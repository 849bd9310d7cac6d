use Rattle.call_soundness.proofs.Reached.{reached_safe}
use Rattle.call_soundness.proofs.laws.passing_legs_are_safe.Goals as goal

pub returns : goal.returns
returns c = λ program from formed constant order pass. reached_safe program from formed constant order pass
