use Rattle.print_expressions.proofs.Numerals.{numerals_read_back}
use Rattle.print_expressions.proofs.laws.numerals_read_back.Goals as goal

pub returns : goal.returns
returns c = numerals_read_back
