use Rattle.std.proofs.lemmas.Result.{on_ok_weaker}
use Rattle.token_printing.specs.Gaps.{gap_seen}
use Rattle.statement_printing.proofs.Forms.{deduction_added}
use Rattle.statement_printing.proofs.parts.add_deduction.Goals as goal

pub returns : goal.returns
returns c =
    on_ok_weaker c.add_word-2.result
    (λ h. deduction_added c.args.light c.args.depth c.in_ok-inner.inner (gap_seen c.args.gap) c.args.steps.now c.in_ok-inner.ensures c.in_ok-add_word.ensures
    c.in_ok-add_text.ensures c.in_ok-add_steps.ensures h) c.add_word-2.ensures
