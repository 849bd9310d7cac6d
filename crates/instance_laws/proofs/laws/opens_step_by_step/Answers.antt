use Rattle.instance_laws.proofs.Openings.{opens_step_by_step}
use Rattle.instance_laws.proofs.laws.opens_step_by_step.Goals as goal

pub returns : goal.returns
returns c = opens_step_by_step
