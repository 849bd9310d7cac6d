use Rattle.run_values.proofs.Values.{plain_value-Unit}
use Rattle.run_starts.proofs.Constants.{none_have}
use Rattle.run_starts.proofs.globals.no_values.Goals as goal

pub returns : goal.returns
returns c = none_have _ c.new.ensures c.new-2.ensures c.new-3.ensures plain_value-Unit
