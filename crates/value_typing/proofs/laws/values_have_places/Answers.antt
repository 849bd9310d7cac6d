use Rattle.value_typing.proofs.Nodes.{values_have_places}
use Rattle.value_typing.proofs.laws.values_have_places.Goals as goal

pub returns : goal.returns
returns c = values_have_places
