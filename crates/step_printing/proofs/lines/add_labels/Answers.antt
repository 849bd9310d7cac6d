use Rattle.std.proofs.lemmas.Result.{on_ok_weaker}
use Rattle.step_printing.proofs.Forms.{one_label_behind}
use Rattle.step_printing.proofs.lines.add_labels.Goals as goal

pub loop-label-preserved : goal.loop-label-preserved
loop-label-preserved c =
    one_label_behind c.args.labels.now c.loop-label.label-index _ c.loop-label-test.true c.loop-label.invariant c.in_ok-add_text.ensures c.in_ok-add_label.ensures
