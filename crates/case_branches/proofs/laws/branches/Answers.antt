use Rattle.case_branches.proofs.Branches.{branch_laws}
use Rattle.case_branches.proofs.laws.branches.Goals as goal

pub returns : goal.returns
returns c = branch_laws
