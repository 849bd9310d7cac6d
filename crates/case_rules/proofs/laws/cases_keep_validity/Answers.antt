use Rattle.case_rules.proofs.Sequents.{cases_keep_validity}
use Rattle.case_rules.proofs.laws.cases_keep_validity.Goals as goal

pub returns : goal.returns
returns c = cases_keep_validity
