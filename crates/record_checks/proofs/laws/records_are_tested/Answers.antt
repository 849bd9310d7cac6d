use Rattle.record_checks.proofs.Tested.{told, tested}
use Rattle.record_checks.proofs.laws.records_are_tested.Goals as goal

pub returns : goal.returns
returns c = λ records types. (told records types, tested records types)
