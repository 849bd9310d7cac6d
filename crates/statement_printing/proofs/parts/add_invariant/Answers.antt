use Rattle.std.proofs.lemmas.Result.{on_ok_weaker}
use Rattle.statement_printing.proofs.Forms.{invariant_added}
use Rattle.statement_printing.proofs.parts.add_invariant.Goals as goal

pub returns : goal.returns
returns c =
    on_ok_weaker c.add_word-3.result
    (λ h. invariant_added c.args.light c.args.depth c.in_ok-inner.inner c.args.modifies.now c.args.claims.now c.in_ok-inner.ensures c.in_ok-add_word.ensures
    c.in_ok-add_text.ensures c.in_ok-add_word-2.ensures c.in_ok-add_names.ensures c.in_ok-add_claims.ensures h) c.add_word-3.ensures
