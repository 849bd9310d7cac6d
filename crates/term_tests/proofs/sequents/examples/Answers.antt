use Rattle.term_tests.proofs.Examples.{sequents_are_judged}
use Rattle.term_tests.proofs.sequents.examples.Goals as goal

pub returns : goal.returns
returns c = sequents_are_judged
