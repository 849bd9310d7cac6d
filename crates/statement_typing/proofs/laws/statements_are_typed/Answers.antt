use Rattle.statement_typing.proofs.Statements.{statements_typed}
use Rattle.statement_typing.proofs.laws.statements_are_typed.Goals as goal

pub returns : goal.returns
returns c = statements_typed
