use Rattle.statement_typing.proofs.Steps.{proofs_typed}
use Rattle.statement_typing.proofs.laws.proofs_are_typed.Goals as goal

pub returns : goal.returns
returns c = proofs_typed
