use Rattle.std.proofs.Common.{refl}
use Rattle.typing_examples.proofs.laws.typed_on_examples.Goals as goal

pub returns : goal.returns
returns c = record { no_fault = refl; globals = refl; methods = refl; nodes = refl }
