use Rattle.leg_typing.proofs.Legs.{typed_leg}
use Rattle.leg_typing.proofs.laws.numbering_keeps_typing.Goals as goal

pub returns : goal.returns
returns c = λ program method items fine known typed. typed_leg program method items fine known typed
