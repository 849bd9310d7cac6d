use Rattle.constant_typing.proofs.Constants.{constants_have_types}
use Rattle.constant_typing.proofs.laws.constants_have_types.Goals as goal

pub returns : goal.returns
returns c = constants_have_types
