use Rattle.constant_typing.proofs.Constants.{constants_constant}
use Rattle.constant_typing.proofs.laws.constants_are_constant.Goals as goal

pub returns : goal.returns
returns c = constants_constant
