use Rattle.machine_sound.proofs.Sound.{sound}
use Rattle.machine_sound.proofs.laws.texts_are_in_grammar.Goals as goal

pub returns : goal.returns
returns c = sound
