use Rattle.std.proofs.lemmas.Result.{on_ok_weaker}
use Rattle.step_printing.proofs.Forms.{line_added}
use Rattle.step_printing.proofs.lines.add_line.Goals as goal

pub returns : goal.returns
returns c =
    on_ok_weaker c.add_cites.result
    (λ h. line_added c.args.light c.args.depth c.args.label c.args.claim.now c.args.rule.now c.args.cites.now c.in_ok-add_label.ensures c.in_ok-add_word.ensures
    c.in_ok-add_expr.ensures c.in_ok-add_text.ensures c.in_ok-add_word-2.ensures c.in_ok-add_rule.ensures h) c.add_cites.ensures
