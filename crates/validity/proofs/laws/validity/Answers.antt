use Rattle.validity.proofs.Validity.{validity_laws}
use Rattle.validity.proofs.laws.validity.Goals as goal

pub returns : goal.returns
returns c = validity_laws
