use Rattle.std.proofs.lemmas.Result.{on_ok_weaker}
use Rattle.step_printing.proofs.Forms.{let_added}
use Rattle.step_printing.proofs.lines.add_let.Goals as goal

pub returns : goal.returns
returns c =
    on_ok_weaker c.add_word-3.result
    (λ h. let_added c.args.name.now c.in_ok-add_word.ensures c.in_ok-add_text.ensures c.in_ok-add_text-2.ensures c.in_ok-add_name.ensures
    c.in_ok-add_text-3.ensures c.in_ok-add_word-2.ensures c.in_ok-add_text-4.ensures h) c.add_word-3.ensures
