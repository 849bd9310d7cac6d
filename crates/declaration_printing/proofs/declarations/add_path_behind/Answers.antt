use Rattle.declaration_printing.proofs.Lists.{one_behind_dot}
use Rattle.declaration_printing.proofs.declarations.add_path_behind.Goals as goal

pub loop-name-preserved : goal.loop-name-preserved
loop-name-preserved c =
    one_behind_dot c.args.names.now c.loop-name.name-index _ c.loop-name-test.true c.name-item.is c.loop-name.invariant c.in_ok-add_text.ensures
    c.in_ok-add_name.ensures
