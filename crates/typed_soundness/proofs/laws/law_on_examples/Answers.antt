use Rattle.typed_soundness.proofs.Examples.{soundness_examples}
use Rattle.typed_soundness.proofs.laws.law_on_examples.Goals as goal

pub returns : goal.returns
returns c = soundness_examples
