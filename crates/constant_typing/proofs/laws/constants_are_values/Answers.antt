use Rattle.constant_typing.proofs.Constants.{constants_values}
use Rattle.constant_typing.proofs.laws.constants_are_values.Goals as goal

pub returns : goal.returns
returns c = constants_values
