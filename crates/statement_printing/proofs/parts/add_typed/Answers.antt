use Rattle.std.proofs.lemmas.Result.{on_ok_weaker}
use Rattle.statement_printing.proofs.Forms.{typed_added}
use Rattle.statement_printing.proofs.parts.add_typed.Goals as goal

pub returns-in_ok-add_text-in-Some : goal.returns-in_ok-add_text-in-Some
returns-in_ok-add_text-in-Some c =
    on_ok_weaker c.add_type.result (λ h. typed_added c.args.ty.now c.in-Some.ty c.in-Some.is c.in_ok-add_text-in-Some.ensures h) c.add_type.ensures
