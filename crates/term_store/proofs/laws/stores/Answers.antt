use Rattle.term_store.proofs.Held.{store_laws}
use Rattle.term_store.proofs.laws.stores.Goals as goal

pub returns : goal.returns
returns c = store_laws
