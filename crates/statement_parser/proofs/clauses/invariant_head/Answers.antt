use Rattle.std.proofs.Common.{refl, ◌∙◌}
use Rattle.std.proofs.lemmas.Result.{on_ok_weaker}
use Rattle.slang_lexer.specs.declared.token.TokenKind.TheVariants as kind
use Rattle.slang_tree.specs.StmtTree as s
use Rattle.slang_tokens.specs.Tok.{tok}
use Rattle.slang_machine.specs.States.{loop_names, names_due, invariant_left, modifies_due}
use Rattle.token_cursor.proofs.Steps.{expects}
use Rattle.token_cursor.proofs.Exits.{passed_on, refused_as}
use Rattle.statement_parser.proofs.clauses.invariant_head.Goals as goal

pub returns-in_err-invariant_word-clause-refused : goal.returns-in_err-invariant_word-clause-refused
returns-in_err-invariant_word-clause-refused c =
    passed_on c.from_residual.result _ _ _ c.from_residual.ensures.1 c.in_err-invariant_word.ensures.refused (λ due none place test at. none place test at)

pub returns-in_err-expect-clause-refused : goal.returns-in_err-expect-clause-refused
returns-in_err-expect-clause-refused c =
    passed_on c.from_residual-in_err-expect.result _ _ _ c.from_residual-in_err-expect.ensures.1 c.in_err-expect.ensures.refused (λ due none place test at.
    c.in_ok-invariant_word.ensures.reads place test at
    ∙ none (invariant_left place test at) (modifies_due place test at) (expects kind.LeftParen _ _ refl refl (λ token. refl)))

pub returns-clause-reads : goal.returns-clause-reads
returns-clause-reads c =
    on_ok_weaker c.expect-2.result (λ reads place test at.
    c.in_ok-invariant_word.ensures.reads place test at
    ∙ c.in_ok-expect.ensures.reads (invariant_left place test at) (modifies_due place test at) (expects kind.LeftParen _ _ refl refl (λ token. refl))
    ∙ reads (modifies_due place test at) (names_due (loop_names place test at)) (expects kind.Modifies _ _ refl refl (λ token. refl))) c.expect-2.ensures.reads

pub returns-clause-refused : goal.returns-clause-refused
returns-clause-refused c =
    refused_as c.expect-2.result _ _ (λ due none place test at.
    c.in_ok-invariant_word.ensures.reads place test at
    ∙ c.in_ok-expect.ensures.reads (invariant_left place test at) (modifies_due place test at) (expects kind.LeftParen _ _ refl refl (λ token. refl))
    ∙ none (modifies_due place test at) (names_due (loop_names place test at)) (expects kind.Modifies _ _ refl refl (λ token. refl))) c.expect-2.ensures.refused
