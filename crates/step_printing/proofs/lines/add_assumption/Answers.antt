use Rattle.std.proofs.lemmas.Result.{on_ok_weaker}
use Rattle.step_printing.proofs.Forms.{assumption_added}
use Rattle.step_printing.proofs.lines.add_assumption.Goals as goal

pub returns : goal.returns
returns c =
    on_ok_weaker c.add_text-3.result
    (λ h. assumption_added c.args.light c.args.inner c.args.label c.args.claim.now c.in_ok-add_word.ensures c.in_ok-add_text.ensures c.in_ok-add_label.ensures
    c.in_ok-add_word-2.ensures c.in_ok-add_text-2.ensures c.in_ok-add_expr.ensures h) c.add_text-3.ensures
