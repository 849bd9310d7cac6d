use Rattle.std.specs.List.{IsDistinct}
use Rattle.io_tests.proofs.statuses.check.Goals as goal

pub check_once-status-requires-clause-distinct : goal.check_once-status-requires-clause-distinct
unfolding IsDistinct
check_once-status-requires-clause-distinct c = tt
