use Rattle.std.proofs.Common.{◌∙◌}
use Rattle.token_cursor.proofs.Exits.{passed_on, kept_with, kept_refused}
use Rattle.method_parser.proofs.methods.method.Goals as goal

pub returns-in_err-method-clause-refused : goal.returns-in_err-method-clause-refused
returns-in_err-method-clause-refused c =
    passed_on c.from_residual.result _ _ _ c.from_residual.ensures.1 c.in_err-method.ensures.refused (λ due none done. none done)

pub returns-clause-reads : goal.returns-clause-reads
returns-clause-reads c =
    kept_with c.kept.result c.body-end.new.method c.body-end.result _ _ c.kept.ensures c.body-end.ensures.reads (λ reads done.
    c.in_ok-method.ensures.reads done ∙ reads done)

pub returns-clause-refused : goal.returns-clause-refused
returns-clause-refused c =
    kept_refused c.kept.result c.body-end.new.method c.body-end.result _ _ c.kept.ensures c.body-end.ensures.refused (λ due none done.
    c.in_ok-method.ensures.reads done ∙ none done)
