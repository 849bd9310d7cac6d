use Rattle.std.proofs.lemmas.Result.{on_ok_weaker}
use Rattle.token_printing.specs.Gaps.{gap_seen}
use Rattle.step_printing.proofs.Forms.{label_added}
use Rattle.step_printing.proofs.lines.add_label.Goals as goal

pub returns : goal.returns
returns c = on_ok_weaker c.add_numeral.result (λ h. label_added (gap_seen c.args.gap) c.args.label c.in_ok-add_gap.ensures h) c.add_numeral.ensures
