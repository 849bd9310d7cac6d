use Rattle.std.proofs.Common.{[], not}
use Rattle.slang_lexer.specs.declared.token.TokenKind.TheVariants as kind
use Rattle.slang_tree.specs.StmtTree as s
use Rattle.slang_tokens.specs.Tok.{tok}
use Rattle.slang_machine.specs.States.{stmt_or_end}
use Rattle.token_cursor.specs.Gives.{ahead}
use Rattle.expression_parser.proofs.Turns.{list_start}
use Rattle.statement_parser.specs.Expects.{within}
use Rattle.statement_parser.proofs.Reading.{not_taken}
use Rattle.statement_parser.proofs.ReadStmts.{stmt_or_end_turn}
use Rattle.statement_parser.proofs.statements.has_stmts.Goals as goal

pub returns-clause-reads : goal.returns-clause-reads
returns-clause-reads c = λ block to x.
    list_start kind.RightBrace (stmt_or_end (within [] block)) (stmt_or_end (within [] block)) (to []) (ahead c.args.tokens.now) (ahead c.take.new.self) c.take.result
    (stmt_or_end_turn block to [] (ahead c.args.tokens.now) x) c.take.ensures.found c.take.ensures.moved

pub returns-clause-begun : goal.returns-clause-begun
returns-clause-begun c = not_taken kind.RightBrace (ahead c.args.tokens.now) (ahead c.take.new.self) c.take.result c.take.ensures.found c.take.ensures.moved
