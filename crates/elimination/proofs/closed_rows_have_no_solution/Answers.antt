use Rattle.elimination.proofs.Soundness.{Closed-refutes}
use Rattle.elimination.proofs.closed_rows_have_no_solution.Goals as goal

pub returns : goal.returns
returns c = Closed-refutes
