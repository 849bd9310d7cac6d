use Rattle.case_steps.proofs.Enough.{weight_suffices}
use Rattle.case_steps.proofs.laws.weight_suffices.Goals as goal

pub returns : goal.returns
returns c = weight_suffices
