use Rattle.instance_laws.proofs.Lacking.{lacks_in_order}
use Rattle.instance_laws.proofs.laws.lacks_in_order.Goals as goal

pub returns : goal.returns
returns c = lacks_in_order
