use Rattle.instance_laws.proofs.Alike.{alike}
use Rattle.instance_laws.proofs.laws.substitutes_alike.Goals as goal

pub returns : goal.returns
returns c = alike
