use Rattle.light_expressions.proofs.Lightest.{expressions_are_lightest}
use Rattle.light_expressions.proofs.laws.expressions_are_lightest.Goals as goal

pub returns : goal.returns
returns c = expressions_are_lightest
