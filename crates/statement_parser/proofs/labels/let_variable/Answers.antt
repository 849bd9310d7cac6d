use Rattle.std.proofs.Common.{refl, ◌∙◌}
use Rattle.slang_lexer.specs.declared.token.TokenKind.TheVariants as kind
use Rattle.slang_tree.specs.StmtTree as s
use Rattle.slang_tokens.specs.Tok.{tok}
use Rattle.slang_machine.specs.States.{let_left, let_inner, let_name, let_colon, let_arrow}
use Rattle.token_cursor.proofs.Steps.{expects, expects_name}
use Rattle.token_cursor.proofs.Exits.{passed_on, kept_with, kept_refused}
use Rattle.statement_parser.proofs.labels.let_variable.Goals as goal

pub returns-in_err-expect-clause-refused : goal.returns-in_err-expect-clause-refused
returns-in_err-expect-clause-refused c =
    passed_on c.from_residual.result _ _ _ c.from_residual.ensures.1 c.in_err-expect.ensures.refused (λ due none at. none (let_left at) (let_inner at) (expects kind.LeftParen _ _ refl refl (λ token. refl)))

pub returns-in_err-expect-2-clause-refused : goal.returns-in_err-expect-2-clause-refused
returns-in_err-expect-2-clause-refused c =
    passed_on c.from_residual-in_err-expect-2.result _ _ _ c.from_residual-in_err-expect-2.ensures.1 c.in_err-expect-2.ensures.refused (λ due none at.
    c.in_ok-expect.ensures.reads (let_left at) (let_inner at) (expects kind.LeftParen _ _ refl refl (λ token. refl))
    ∙ none (let_inner at) (let_name at) (expects kind.LeftParen _ _ refl refl (λ token. refl)))

pub returns-in_err-variable-clause-refused : goal.returns-in_err-variable-clause-refused
returns-in_err-variable-clause-refused c =
    passed_on c.from_residual-in_err-variable.result _ _ _ c.from_residual-in_err-variable.ensures.1 c.in_err-variable.ensures.refused (λ due none at.
    c.in_ok-expect.ensures.reads (let_left at) (let_inner at) (expects kind.LeftParen _ _ refl refl (λ token. refl))
    ∙ c.in_ok-expect-2.ensures.reads (let_inner at) (let_name at) (expects kind.LeftParen _ _ refl refl (λ token. refl))
    ∙ none (let_name at) (λ n. let_colon n at) (expects_name _ _ refl refl (λ token. refl)))

pub returns-clause-reads : goal.returns-clause-reads
returns-clause-reads c =
    kept_with c.kept.result c.in_ok-variable.variable c.let_arrow.result _ _ c.kept.ensures c.let_arrow.ensures.reads (λ reads at.
    c.in_ok-expect.ensures.reads (let_left at) (let_inner at) (expects kind.LeftParen _ _ refl refl (λ token. refl))
    ∙ c.in_ok-expect-2.ensures.reads (let_inner at) (let_name at) (expects kind.LeftParen _ _ refl refl (λ token. refl))
    ∙ c.in_ok-variable.ensures.reads (let_name at) (λ n. let_colon n at) (expects_name _ _ refl refl (λ token. refl))
    ∙ reads c.in_ok-variable.variable at)

pub returns-clause-refused : goal.returns-clause-refused
returns-clause-refused c =
    kept_refused c.kept.result c.in_ok-variable.variable c.let_arrow.result _ _ c.kept.ensures c.let_arrow.ensures.refused (λ due none at.
    c.in_ok-expect.ensures.reads (let_left at) (let_inner at) (expects kind.LeftParen _ _ refl refl (λ token. refl))
    ∙ c.in_ok-expect-2.ensures.reads (let_inner at) (let_name at) (expects kind.LeftParen _ _ refl refl (λ token. refl))
    ∙ c.in_ok-variable.ensures.reads (let_name at) (λ n. let_colon n at) (expects_name _ _ refl refl (λ token. refl))
    ∙ none c.in_ok-variable.variable at)
