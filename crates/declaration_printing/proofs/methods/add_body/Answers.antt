use Rattle.declaration_printing.proofs.Lines.{one_part}
use Rattle.declaration_printing.proofs.methods.add_body.Goals as goal

pub loop-stmt-preserved : goal.loop-stmt-preserved
loop-stmt-preserved c =
    one_part c.args.light c.args.stmts.now c.loop-stmt.stmt-index _ c.loop-stmt-test.true c.stmt-item.is c.loop-stmt.invariant c.in_ok-add_stmt.ensures
