use Rattle.std.proofs.lemmas.Result.{on_ok_weaker}
use Rattle.step_printing.proofs.Forms.{cites_added}
use Rattle.step_printing.proofs.lines.add_cites.Goals as goal

pub returns-in_ok-add_labels-in-Some : goal.returns-in_ok-add_labels-in-Some
returns-in_ok-add_labels-in-Some c =
    on_ok_weaker c.add_text-in-Some.result
    (λ h. cites_added c.args.cites.now _ _ c.in-Some.ensures.cases.0 c.in_ok-add_text-in-Some.ensures c.in_ok-add_label-in-Some.ensures c.in_ok-add_labels-in-Some.ensures h) c.add_text-in-Some.ensures
