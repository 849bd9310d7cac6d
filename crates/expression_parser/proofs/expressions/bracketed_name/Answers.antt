use Rattle.std.proofs.Common.{refl, ◌∙◌}
use Rattle.slang_lexer.specs.declared.token.TokenKind.TheVariants as kind
use Rattle.slang_machine.specs.States.{whole, have, value_left, value_written, value_right}
use Rattle.slang_machine.specs.Expressions.{value_tree}
use Rattle.token_cursor.proofs.Steps.{expects, expects_name}
use Rattle.token_cursor.proofs.Exits.{passed_on, kept_with, kept_refused}
use Rattle.expression_parser.proofs.expressions.bracketed_name.Goals as goal

pub returns-in_err-expect-clause-refused : goal.returns-in_err-expect-clause-refused
returns-in_err-expect-clause-refused c =
    passed_on c.from_residual.result _ _ _ c.from_residual.ensures.1 c.in_err-expect.ensures.refused (λ due none word place around.
    none (value_left word place around) (value_written word place around) (expects kind.LeftParen _ _ refl refl (λ token. refl)))

pub returns-in_err-name-clause-refused : goal.returns-in_err-name-clause-refused
returns-in_err-name-clause-refused c =
    passed_on c.from_residual-in_err-name.result _ _ _ c.from_residual-in_err-name.ensures.1 c.in_err-name.ensures.refused (λ due none word place around.
    c.in_ok-expect.ensures.reads (value_left word place around) (value_written word place around) (expects kind.LeftParen _ _ refl refl (λ token. refl))
    ∙ none (value_written word place around) (λ n. value_right word place n around) (expects_name _ _ refl refl (λ token. refl)))

pub returns-clause-reads : goal.returns-clause-reads
returns-clause-reads c =
    kept_with c.kept.result c.in_ok-name.name c.expect-2.result _ _ c.kept.ensures c.expect-2.ensures.reads (λ reads word place around.
    let written = c.in_ok-name.name in
    c.in_ok-expect.ensures.reads (value_left word place around) (value_written word place around) (expects kind.LeftParen _ _ refl refl (λ token. refl))
    ∙ c.in_ok-name.ensures.reads (value_written word place around) (λ n. value_right word place n around) (expects_name _ _ refl refl (λ token. refl))
    ∙ reads (value_right word place written around) (have (whole (value_tree word place written)) around) (expects kind.RightParen _ _ refl refl (λ token. refl)))

pub returns-clause-refused : goal.returns-clause-refused
returns-clause-refused c =
    kept_refused c.kept.result c.in_ok-name.name c.expect-2.result _ _ c.kept.ensures c.expect-2.ensures.refused (λ due none word place around.
    let written = c.in_ok-name.name in
    c.in_ok-expect.ensures.reads (value_left word place around) (value_written word place around) (expects kind.LeftParen _ _ refl refl (λ token. refl))
    ∙ c.in_ok-name.ensures.reads (value_written word place around) (λ n. value_right word place n around) (expects_name _ _ refl refl (λ token. refl))
    ∙ none (value_right word place written around) (have (whole (value_tree word place written)) around) (expects kind.RightParen _ _ refl refl (λ token. refl)))
