use Rattle.std.proofs.Common.{refl, ap, ◌∙◌, sym}
use Rattle.slang_lexer.specs.declared.token.TokenKind.TheVariants as kind
use Rattle.slang_tree.specs.StmtTree as s
use Rattle.slang_tree.specs.StmtTree.{stmt_tree}
use Rattle.slang_tree.proofs.Lines.{stmt_tree-Assert}
use Rattle.slang_tokens.specs.Tok.{tok}
use Rattle.slang_machine.specs.Open.{alone, asserted, with_stmt}
use Rattle.slang_machine.specs.States.{assert_left}
use Rattle.slang_machine.specs.Statements.{after_stmt}
use Rattle.token_cursor.specs.Outcome.{outcome}
use Rattle.token_cursor.specs.Gives.{ahead}
use Rattle.token_cursor.proofs.Steps.{expects}
use Rattle.token_cursor.proofs.Exits.{passed_on}
use Rattle.statement_parser.proofs.ReadStmts.{closes_assert}
use Rattle.statement_parser.proofs.statements.assertion.Goals as goal

pub returns-in_err-claim-clause-refused : goal.returns-in_err-claim-clause-refused
returns-in_err-claim-clause-refused c =
    passed_on c.from_residual.result _ _ _ c.from_residual.ensures.1 c.in_err-claim.ensures.refused (λ due none at. none (assert_left c.args.place at) (alone (asserted c.args.place at)) (λ expr. after_stmt (with_stmt at (s.assertion c.args.place expr))) (expects kind.LeftParen _ _ refl refl (λ token. refl)) (closes_assert c.args.place at))

pub returns-clause-reads : goal.returns-clause-reads
returns-clause-reads c = λ at.
    c.in_ok-claim.ensures.reads (assert_left c.args.place at) (alone (asserted c.args.place at)) (λ expr. after_stmt (with_stmt at (s.assertion c.args.place expr))) (expects kind.LeftParen _ _ refl refl (λ token. refl)) (closes_assert c.args.place at)
    ∙ ap (λ tree. outcome (after_stmt (with_stmt at tree)) (ahead c.test.new.tokens)) (sym (stmt_tree-Assert c.args.place c.in_ok-claim.claim))
