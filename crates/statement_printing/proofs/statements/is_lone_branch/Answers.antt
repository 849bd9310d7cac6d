use Rattle.std.proofs.Common.{◌∙◌}
use Rattle.statement_printing.proofs.Forms.{only_of_one, only_of_more}
use Rattle.statement_printing.proofs.statements.is_lone_branch.Goals as goal

pub returns-then-is_empty : goal.returns-then-is_empty
returns-then-is_empty c = c.is_branch.ensures ∙ only_of_one c.args.stmt.now c.args.others.now c.if-is_empty.ensures

pub returns-else-is_empty : goal.returns-else-is_empty
returns-else-is_empty c = only_of_more c.args.stmt.now c.args.others.now c.if-is_empty.ensures
