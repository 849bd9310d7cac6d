use Rattle.declaration_typing.proofs.Records.{records_well_formed}
use Rattle.declaration_typing.proofs.laws.records_are_well_formed.Goals as goal

pub returns : goal.returns
returns c = records_well_formed
