use Rattle.statement_rules.proofs.Statements.{faultless_where_typed}
use Rattle.statement_rules.proofs.laws.faultless_where_typed.Goals as goal

pub returns : goal.returns
returns c = faultless_where_typed
