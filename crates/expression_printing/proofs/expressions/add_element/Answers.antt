use Rattle.std.proofs.lemmas.Result.{on_ok_weaker}
use Rattle.expression_printing.proofs.Forms.{element_added}
use Rattle.expression_printing.proofs.expressions.add_element.Goals as goal

pub returns-in_ok-add_type-in-Some : goal.returns-in_ok-add_type-in-Some
returns-in_ok-add_type-in-Some c =
    on_ok_weaker c.add_text-in-Some.result
    (λ h. element_added c.args.ty.now c.in-Some.ty c.in-Some.is c.in_ok-add_text-in-Some.ensures c.in_ok-add_type-in-Some.ensures h) c.add_text-in-Some.ensures
