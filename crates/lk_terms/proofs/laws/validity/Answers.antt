use Rattle.lk_terms.proofs.Validity.{validity_laws}
use Rattle.lk_terms.proofs.laws.validity.Goals as goal

pub returns : goal.returns
returns c = validity_laws
