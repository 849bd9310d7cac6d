use Rattle.value_typing.proofs.Records.{records_end}
use Rattle.value_typing.proofs.laws.records_end.Goals as goal

pub returns : goal.returns
returns c = records_end
