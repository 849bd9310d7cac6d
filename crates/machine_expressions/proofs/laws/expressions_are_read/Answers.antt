use Rattle.machine_expressions.proofs.Reading.{read_whole}
use Rattle.machine_expressions.proofs.laws.expressions_are_read.Goals as goal

pub returns : goal.returns
returns c = read_whole
