use Rattle.value_typing.proofs.Faultless.{typed_where_faultless}
use Rattle.value_typing.proofs.laws.typed_where_faultless.Goals as goal

pub returns : goal.returns
returns c = typed_where_faultless
