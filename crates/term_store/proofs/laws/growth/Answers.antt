use Rattle.term_store.proofs.Held.{growth_laws}
use Rattle.term_store.proofs.laws.growth.Goals as goal

pub returns : goal.returns
returns c = growth_laws
