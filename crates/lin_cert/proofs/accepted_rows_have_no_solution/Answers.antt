use Rattle.lin_cert.proofs.Soundness.{refuted}
use Rattle.lin_cert.proofs.accepted_rows_have_no_solution.Goals as goal

pub returns : goal.returns
returns c = refuted
