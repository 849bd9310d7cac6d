use Rattle.std.proofs.Common.{refl, ap, ◌∙◌, sym}
use Rattle.slang_lexer.specs.declared.token.TokenKind.TheVariants as kind
use Rattle.slang_tree.specs.StmtTree as s
use Rattle.slang_tree.specs.StmtTree.{stmt_tree}
use Rattle.slang_tree.proofs.Lines.{stmt_tree-Deduce}
use Rattle.slang_tokens.specs.Tok.{tok}
use Rattle.slang_machine.specs.Open.{with_stmt, deduction_of}
use Rattle.slang_machine.specs.States.{steps_left}
use Rattle.slang_machine.specs.Statements.{after_stmt}
use Rattle.token_cursor.specs.Outcome.{outcome}
use Rattle.token_cursor.specs.Gives.{ahead}
use Rattle.token_cursor.proofs.Steps.{expects}
use Rattle.token_cursor.proofs.Exits.{passed_on}
use Rattle.statement_parser.proofs.statements.deduction.Goals as goal

pub returns-in_err-steps-clause-refused : goal.returns-in_err-steps-clause-refused
returns-in_err-steps-clause-refused c =
    passed_on c.from_residual.result _ _ _ c.from_residual.ensures.1 c.in_err-steps.ensures.refused (λ due none at. none (steps_left c.args.place at) (deduction_of c.args.place at) (expects kind.LeftParen _ _ refl refl (λ token. refl)))

pub returns-clause-reads : goal.returns-clause-reads
returns-clause-reads c = λ at.
    c.in_ok-steps.ensures.reads (steps_left c.args.place at) (deduction_of c.args.place at) (expects kind.LeftParen _ _ refl refl (λ token. refl))
    ∙ ap (λ tree. outcome (after_stmt (with_stmt at tree)) (ahead c.steps.new.tokens)) (sym (stmt_tree-Deduce c.args.place c.in_ok-steps.steps))
