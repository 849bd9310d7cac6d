use Rattle.slang_values.proofs.Typed.{HasType-value}
use Rattle.slang_values.proofs.laws.values_have_their_types.Goals as goal

pub returns : goal.returns
returns g c = λ records fine types names fit t s e h. HasType-value records fine types names fit t s e h
