use Rattle.std.proofs.lemmas.Result.{on_ok_weaker}
use Rattle.statement_printing.proofs.Forms.{no_claims_added, claims_added}
use Rattle.statement_printing.proofs.parts.add_claims.Goals as goal

pub returns-then-is_empty : goal.returns-then-is_empty
returns-then-is_empty c = no_claims_added c.args.light c.args.depth c.args.claims.now c.if-is_empty.ensures

pub returns-in_ok-add_text : goal.returns-in_ok-add_text
returns-in_ok-add_text c =
    on_ok_weaker c.add_exprs.result (λ h. claims_added c.args.light c.args.depth c.args.claims.now c.if-is_empty.ensures c.in_ok-add_text.ensures h) c.add_exprs.ensures
