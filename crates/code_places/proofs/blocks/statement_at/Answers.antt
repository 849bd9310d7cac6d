use Rattle.std.proofs.Common.{sym}
use Rattle.code_places.proofs.Parts.{statement_there, statement_missing}
use Rattle.code_places.proofs.blocks.statement_at.Goals as goal

pub returns-in-None : goal.returns-in-None
returns-in-None c = statement_missing c.args.block.now c.args.number (sym c.in-None.ensures)

pub returns-in-Some : goal.returns-in-Some
returns-in-Some c = statement_there c.args.block.now c.args.number c.in-Some.code.now (sym c.in-Some.ensures)
