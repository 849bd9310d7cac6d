use Rattle.std.proofs.Common.{refl, ◌∙◌}
use Rattle.slang_lexer.specs.declared.token.TokenKind.TheVariants as kind
use Rattle.slang_tree.specs.ExprTree.{expr_tree}
use Rattle.slang_tree.specs.StmtTree as s
use Rattle.slang_tokens.specs.Tok.{tok}
use Rattle.slang_machine.specs.Open.{alone, test_of_loop}
use Rattle.slang_machine.specs.States.{invariant_due, loop_left, loop_begin}
use Rattle.token_cursor.proofs.Steps.{expects}
use Rattle.token_cursor.proofs.Exits.{passed_on, kept_with, kept_refused}
use Rattle.statement_parser.proofs.ReadStmts.{closes_loop}
use Rattle.statement_parser.proofs.statements.loop_head.Goals as goal

pub returns-in_err-test-clause-refused : goal.returns-in_err-test-clause-refused
returns-in_err-test-clause-refused c =
    passed_on c.from_residual.result _ _ _ c.from_residual.ensures.1 c.in_err-test.ensures.refused (λ due none place at. none (loop_left place at) (alone (test_of_loop place at)) (λ expr. loop_begin place expr at) (expects kind.LeftParen _ _ refl refl (λ token. refl)) (closes_loop place at))

pub returns-clause-reads : goal.returns-clause-reads
returns-clause-reads c =
    kept_with c.kept.result c.in_ok-test.test c.expect.result _ _ c.kept.ensures c.expect.ensures.reads (λ reads place at.
    c.in_ok-test.ensures.reads (loop_left place at) (alone (test_of_loop place at)) (λ expr. loop_begin place expr at) (expects kind.LeftParen _ _ refl refl (λ token. refl)) (closes_loop place at)
    ∙ reads (loop_begin place (expr_tree c.in_ok-test.test) at) (invariant_due place (expr_tree c.in_ok-test.test) at) (expects kind.LeftBrace _ _ refl refl (λ token. refl)))

pub returns-clause-refused : goal.returns-clause-refused
returns-clause-refused c =
    kept_refused c.kept.result c.in_ok-test.test c.expect.result _ _ c.kept.ensures c.expect.ensures.refused (λ due none place at.
    c.in_ok-test.ensures.reads (loop_left place at) (alone (test_of_loop place at)) (λ expr. loop_begin place expr at) (expects kind.LeftParen _ _ refl refl (λ token. refl)) (closes_loop place at)
    ∙ none (loop_begin place (expr_tree c.in_ok-test.test) at) (invariant_due place (expr_tree c.in_ok-test.test) at) (expects kind.LeftBrace _ _ refl refl (λ token. refl)))
