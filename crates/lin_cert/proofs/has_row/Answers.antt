use Rattle.lin_cert.proofs.Places.{compared_there, compared_past}
use Rattle.lin_cert.proofs.has_row.Goals as goal

pub returns-then-i-rows : goal.returns-then-i-rows
returns-then-i-rows c = compared_there c.args.rows.now c.args.i _ c.args.row.now _ c.if-i-rows.true c.index-rows-i.is c.eq.ensures

pub returns-else-i-rows : goal.returns-else-i-rows
returns-else-i-rows c = compared_past c.args.rows.now c.args.i c.args.row.now c.if-i-rows.false
