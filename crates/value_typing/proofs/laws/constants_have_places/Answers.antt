use Rattle.value_typing.proofs.Nodes.{constants_have_places}
use Rattle.value_typing.proofs.laws.constants_have_places.Goals as goal

pub returns : goal.returns
returns c = constants_have_places
