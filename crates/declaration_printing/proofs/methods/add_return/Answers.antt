use Rattle.std.proofs.lemmas.Result.{on_ok_weaker}
use Rattle.declaration_printing.proofs.Forms.{return_added}
use Rattle.declaration_printing.proofs.methods.add_return.Goals as goal

pub returns-in_ok-add_word-in-Some : goal.returns-in_ok-add_word-in-Some
returns-in_ok-add_word-in-Some c =
    on_ok_weaker c.add_expr.result (λ h. return_added c.args.light c.args.returned.now c.in-Some.returned c.in-Some.is c.in_ok-add_word-in-Some.ensures h) c.add_expr.ensures
