use Rattle.interp.proofs.Parts.{advances_in_parts as law}
use Rattle.interp.proofs.laws.advances_in_parts.Goals as goal

pub returns : goal.returns
returns c = law
