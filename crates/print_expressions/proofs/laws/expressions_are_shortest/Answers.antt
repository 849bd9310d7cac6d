use Rattle.print_expressions.proofs.Shortest.{expressions_are_shortest}
use Rattle.print_expressions.proofs.laws.expressions_are_shortest.Goals as goal

pub returns : goal.returns
returns c = expressions_are_shortest
