use Rattle.std.proofs.Common.{refl, ◌∙◌}
use Rattle.std.proofs.lemmas.Result.{IfOk-weaker}
use Rattle.slang_lexer.specs.declared.token.TokenKind.TheVariants as kind
use Rattle.slang_tree.specs.StmtTree as s
use Rattle.slang_tokens.specs.Tok.{tok}
use Rattle.slang_machine.specs.States.{by_due, rule_due}
use Rattle.token_cursor.proofs.Steps.{expects}
use Rattle.token_cursor.proofs.Exits.{passed_on, refused_as}
use Rattle.statement_parser.proofs.labels.by_rule.Goals as goal

pub returns-in_err-expect-clause-refused : goal.returns-in_err-expect-clause-refused
returns-in_err-expect-clause-refused c =
    passed_on c.from_residual.result _ _ _ c.from_residual.ensures.1 c.in_err-expect.ensures.refused (λ due none claim at. none (by_due claim at) (rule_due claim at) (expects kind.By _ _ refl refl (λ token. refl)))

pub returns-clause-reads : goal.returns-clause-reads
returns-clause-reads c =
    IfOk-weaker c.rule.result _ _ (λ made reads claim at.
    c.in_ok-expect.ensures.reads (by_due claim at) (rule_due claim at) (expects kind.By _ _ refl refl (λ token. refl))
    ∙ reads claim at) c.rule.ensures.reads

pub returns-clause-refused : goal.returns-clause-refused
returns-clause-refused c =
    refused_as c.rule.result _ _ (λ due none claim at.
    c.in_ok-expect.ensures.reads (by_due claim at) (rule_due claim at) (expects kind.By _ _ refl refl (λ token. refl))
    ∙ none claim at) c.rule.ensures.refused
