use Rattle.argument_rules.proofs.Examples.{argument_examples}
use Rattle.argument_rules.proofs.laws.arguments_on_examples.Goals as goal

pub returns : goal.returns
returns c = argument_examples
