use Rattle.std.proofs.Common.{◌∙◌}
use Rattle.std.proofs.lemmas.Result.{IfOk-weaker}
use Rattle.token_cursor.proofs.Exits.{passed_on, refused_as}
use Rattle.file_parser.proofs.declarations.declaration.Goals as goal

pub returns-in_err-head-clause-refused : goal.returns-in_err-head-clause-refused
returns-in_err-head-clause-refused c =
    passed_on c.from_residual.result _ _ _ c.from_residual.ensures.1 c.in_err-head.ensures.refused (λ due none done n. none done n)

pub returns-clause-reads : goal.returns-clause-reads
returns-clause-reads c =
    IfOk-weaker c.declaration_behind.result _ _ (λ made reads done.
    c.in_ok-head.ensures.reads done ∙ reads done) c.declaration_behind.ensures.reads

pub returns-clause-refused : goal.returns-clause-refused
returns-clause-refused c =
    refused_as c.declaration_behind.result _ _ (λ due none done n.
    c.in_ok-head.ensures.reads done ∙ none done) c.declaration_behind.ensures.refused
