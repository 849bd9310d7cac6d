use Rattle.std.proofs.Common.{◌∙◌}
use Rattle.slang_tree.specs.StmtTree as s
use Rattle.token_cursor.proofs.Exits.{passed_on}
use Rattle.expression_parser.proofs.Pairs.{beside_with, beside_refused}
use Rattle.statement_parser.proofs.steps.reason.Goals as goal

pub returns-in_err-rule-clause-refused : goal.returns-in_err-rule-clause-refused
returns-in_err-rule-clause-refused c =
    passed_on c.from_residual.result _ _ _ c.from_residual.ensures.1 c.in_err-rule.ensures.refused (λ due none claim at. none claim at)

pub returns-clause-reads : goal.returns-clause-reads
returns-clause-reads c =
    beside_with c.beside.result c.in_ok-rule.rule c.cites.result _ _ c.beside.ensures c.cites.ensures.reads (λ read reads claim at.
    c.in_ok-rule.ensures.reads claim at ∙ reads claim c.in_ok-rule.rule at)

pub returns-clause-refused : goal.returns-clause-refused
returns-clause-refused c =
    beside_refused c.beside.result c.in_ok-rule.rule c.cites.result _ _ c.beside.ensures c.cites.ensures.refused (λ due none claim at.
    c.in_ok-rule.ensures.reads claim at ∙ none claim c.in_ok-rule.rule at)
