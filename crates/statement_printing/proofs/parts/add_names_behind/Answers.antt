use Rattle.std.proofs.lemmas.Result.{on_ok_weaker}
use Rattle.statement_printing.proofs.Forms.{one_name_behind}
use Rattle.statement_printing.proofs.parts.add_names_behind.Goals as goal

pub loop-name-preserved : goal.loop-name-preserved
loop-name-preserved c =
    one_name_behind c.args.names.now c.loop-name.name-index _ c.loop-name-test.true c.name-item.is c.loop-name.invariant c.in_ok-add_text.ensures c.in_ok-add_name.ensures
