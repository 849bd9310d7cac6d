use Rattle.typing_rules.proofs.Expressions.{types_found}
use Rattle.typing_rules.proofs.laws.types_are_found.Goals as goal

pub returns : goal.returns
returns c = types_found
