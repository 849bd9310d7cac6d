use Rattle.std.proofs.lemmas.Result.{on_ok_weaker}
use Rattle.token_printing.specs.Gaps.{gap_seen}
use Rattle.statement_printing.proofs.Forms.{enclosed_added}
use Rattle.statement_printing.proofs.parts.add_enclosed.Goals as goal

pub returns : goal.returns
returns c =
    on_ok_weaker c.add_text.result
    (λ h. enclosed_added c.args.light (gap_seen c.args.gap) c.args.expr.now c.in_ok-add_word.ensures c.in_ok-add_expr.ensures h) c.add_text.ensures
