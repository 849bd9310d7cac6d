use Rattle.print_expressions.proofs.Back.{expressions_read_back}
use Rattle.print_expressions.proofs.laws.expressions_read_back.Goals as goal

pub returns : goal.returns
returns c = expressions_read_back
