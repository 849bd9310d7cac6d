use Rattle.std.proofs.Common.{◌∙◌}
use Rattle.std.proofs.lemmas.Result.{IfOk-weaker}
use Rattle.slang_tree.specs.StmtTree as s
use Rattle.slang_machine.specs.States.{want}
use Rattle.token_cursor.proofs.Exits.{passed_on, refused_as}
use Rattle.statement_parser.proofs.statements.test.Goals as goal

pub returns-in_err-expect-clause-refused : goal.returns-in_err-expect-clause-refused
returns-in_err-expect-clause-refused c =
    passed_on c.from_residual.result _ _ _ c.from_residual.ensures.1 c.in_err-expect.ensures.refused (λ due none from at to x y. none from (want at) x)

pub returns-clause-reads : goal.returns-clause-reads
returns-clause-reads c =
    IfOk-weaker c.closed_expression.result _ _ (λ made reads from at to x y.
    c.in_ok-expect.ensures.reads from (want at) x ∙ reads at to y) c.closed_expression.ensures.reads

pub returns-clause-refused : goal.returns-clause-refused
returns-clause-refused c =
    refused_as c.closed_expression.result _ _ (λ due none from at to x y.
    c.in_ok-expect.ensures.reads from (want at) x ∙ none at to y) c.closed_expression.ensures.refused
