use Rattle.claim_reading.proofs.Parts.{reading_laws}
use Rattle.claim_reading.proofs.laws.claims_are_read_by_parts.Goals as goal

pub returns : goal.returns
returns c = reading_laws
