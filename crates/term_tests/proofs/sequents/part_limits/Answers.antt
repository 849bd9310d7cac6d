use Rattle.term_tests.proofs.Examples.{parts_are_limited}
use Rattle.term_tests.proofs.sequents.part_limits.Goals as goal

pub returns : goal.returns
returns c = parts_are_limited
