use Rattle.std.proofs.Common.{refl, ◌∙◌}
use Rattle.slang_lexer.specs.declared.token.TokenKind.TheVariants as kind
use Rattle.slang_tree.specs.StmtTree as s
use Rattle.slang_tokens.specs.Tok.{tok}
use Rattle.slang_machine.specs.States.{names_due, first_name}
use Rattle.token_cursor.proofs.Steps.{expects}
use Rattle.token_cursor.proofs.Exits.{passed_on, kept_with, kept_refused}
use Rattle.statement_parser.proofs.clauses.names.Goals as goal

pub returns-in_err-expect-clause-refused : goal.returns-in_err-expect-clause-refused
returns-in_err-expect-clause-refused c =
    passed_on c.from_residual.result _ _ _ c.from_residual.ensures.1 c.in_err-expect.ensures.refused (λ due none of. none (names_due of) (first_name of) (expects kind.LeftParen _ _ refl refl (λ token. refl)))

pub returns-clause-reads : goal.returns-clause-reads
returns-clause-reads c =
    kept_with c.kept.result c.add_names-end.new.list c.add_names-end.result _ _ c.kept.ensures c.add_names-end.ensures.reads (λ reads of.
    c.in_ok-expect.ensures.reads (names_due of) (first_name of) (expects kind.LeftParen _ _ refl refl (λ token. refl)) ∙ reads of)

pub returns-clause-refused : goal.returns-clause-refused
returns-clause-refused c =
    kept_refused c.kept.result c.add_names-end.new.list c.add_names-end.result _ _ c.kept.ensures c.add_names-end.ensures.refused (λ due none of.
    c.in_ok-expect.ensures.reads (names_due of) (first_name of) (expects kind.LeftParen _ _ refl refl (λ token. refl)) ∙ none of)
