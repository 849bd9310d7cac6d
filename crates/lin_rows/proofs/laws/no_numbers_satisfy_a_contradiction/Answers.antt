use Rattle.lin_rows.proofs.SumLaws.{contradiction_fails}
use Rattle.lin_rows.proofs.laws.no_numbers_satisfy_a_contradiction.Goals as goal

pub returns : goal.returns
returns c = contradiction_fails
