use Rattle.numbering_laws.proofs.Passing.{numbered_leg_passes}
use Rattle.numbering_laws.proofs.laws.numbering_keeps_passing.Goals as goal

pub returns : goal.returns
returns c = λ program method items fine known passes. numbered_leg_passes program method items fine known passes
