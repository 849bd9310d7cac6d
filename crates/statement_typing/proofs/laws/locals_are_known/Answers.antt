use Rattle.statement_typing.proofs.Locals.{locals_known}
use Rattle.statement_typing.proofs.laws.locals_are_known.Goals as goal

pub returns : goal.returns
returns c = locals_known
