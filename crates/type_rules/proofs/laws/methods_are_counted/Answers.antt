use Rattle.type_rules.proofs.Counts.{counts_methods}
use Rattle.type_rules.proofs.laws.methods_are_counted.Goals as goal

pub returns : goal.returns
returns c = counts_methods
