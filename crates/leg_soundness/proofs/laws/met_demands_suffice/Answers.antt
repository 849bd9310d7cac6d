use Rattle.leg_soundness.proofs.Demands.{never_fails}
use Rattle.leg_soundness.proofs.laws.met_demands_suffice.Goals as goal

pub returns : goal.returns
returns c = λ program method scope values t expr formed fit typed hold. never_fails program method formed scope values fit expr t typed hold
