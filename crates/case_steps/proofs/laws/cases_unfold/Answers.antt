use Rattle.case_steps.proofs.Enough.{cases_unfold}
use Rattle.case_steps.proofs.laws.cases_unfold.Goals as goal

pub returns : goal.returns
returns c = cases_unfold
