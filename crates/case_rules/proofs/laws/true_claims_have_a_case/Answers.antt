use Rattle.case_rules.proofs.Sequents.{true_claims_have_a_case}
use Rattle.case_rules.proofs.laws.true_claims_have_a_case.Goals as goal

pub returns : goal.returns
returns c = true_claims_have_a_case
