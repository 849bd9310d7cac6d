use Rattle.print_statements.proofs.Back.{statements_read_back}
use Rattle.print_statements.proofs.laws.statements_read_back.Goals as goal

pub returns : goal.returns
returns c = statements_read_back
