use Rattle.case_steps.proofs.Enough.{steps_are_lighter}
use Rattle.case_steps.proofs.laws.steps_are_lighter.Goals as goal

pub returns : goal.returns
returns c = steps_are_lighter
