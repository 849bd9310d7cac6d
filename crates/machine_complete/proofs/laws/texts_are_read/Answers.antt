use Rattle.machine_complete.proofs.Declarations.{complete}
use Rattle.machine_complete.proofs.laws.texts_are_read.Goals as goal

pub returns : goal.returns
returns c = complete
