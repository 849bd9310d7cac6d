use Rattle.std.proofs.lemmas.Result.{on_ok_weaker}
use Rattle.token_printing.specs.Gaps.{gap_seen}
use Rattle.statement_printing.proofs.Forms.{declared_added}
use Rattle.statement_printing.proofs.parts.add_declared.Goals as goal

pub returns : goal.returns
returns c =
    on_ok_weaker c.add_word.result
    (λ h. declared_added (gap_seen c.args.gap) c.args.fixed c.args.name.now c.args.ty.now c.in_ok-add_value_word.ensures c.in_ok-add_name.ensures
    c.in_ok-add_typed.ensures h) c.add_word.ensures
