use Rattle.std.proofs.Common.{◌+◌, ◌*◌, ◌≡◌, ◌≤◌, false, cond, List, map, length}
use Rattle.std.specs.Prelude.{IsTrue}
use Rattle.slang_lexer.specs.declared.token.TokenKind.TheVariants as kind
use Rattle.slang_tree.specs.StmtTree.{StmtTree, stmt_tree}
use Rattle.slang_machine.specs.Open.{Block}
use Rattle.slang_machine.specs.States.{State, stmt_or_end}
use Rattle.token_cursor.specs.Outcome.{outcome}
use Rattle.token_cursor.specs.Gives.{ahead}
use Rattle.token_cursor.specs.Lists.{begins}
use Rattle.statement_parser.specs.Expects.{ClosesBlock, within}
use Rattle.statement_parser.proofs.statements.+statements.Given as goal

abbrev pub decreases-stmt : goal.decreases-stmt
decreases-stmt l = 2 * length (ahead l.tokens.now)

abbrev pub decreases-if_stmt : goal.decreases-if_stmt
decreases-if_stmt l = 2 * length (ahead l.tokens.now)

abbrev pub decreases-otherwise : goal.decreases-otherwise
decreases-otherwise l = 2 * length (ahead l.tokens.now)

abbrev pub decreases-else_if : goal.decreases-else_if
decreases-else_if l = 2 * length (ahead l.tokens.now)

abbrev pub decreases-repetition : goal.decreases-repetition
decreases-repetition l = 2 * length (ahead l.tokens.now)

abbrev pub decreases-loop_rest : goal.decreases-loop_rest
decreases-loop_rest l = 2 * length (ahead l.tokens.now)

abbrev pub decreases-loop_body : goal.decreases-loop_body
decreases-loop_body l = 2 * length (ahead l.tokens.now)

abbrev pub decreases-block : goal.decreases-block
decreases-block l = 2 * length (ahead l.tokens.now)

abbrev pub decreases-stmt_behind : goal.decreases-stmt_behind
decreases-stmt_behind l = 2 * length (ahead l.tokens.now) + 1

abbrev pub decreases-arms : goal.decreases-arms
decreases-arms l = 2 * length (ahead l.tokens.now) + 1

abbrev pub decreases-else_part : goal.decreases-else_part
decreases-else_part l = 2 * length (ahead l.tokens.now) + 1

abbrev pub decreases-add_stmts : goal.decreases-add_stmts
decreases-add_stmts l = 2 * length (ahead l.tokens.now) + 1

-- the statements so far are read, and the block goes on or is over
abbrev pub invariant-add_stmts-members : goal.invariant-add_stmts-members
invariant-add_stmts-members l = record {
  reads : (block : Block) (to : List StmtTree → State) → ClosesBlock block to
      → outcome (cond l.fn.another (stmt_or_end (within (map stmt_tree l.fn.list) block)) (to (map stmt_tree l.fn.list))) (ahead l.fn.tokens)
      ≡ outcome (cond l.more (stmt_or_end (within (map stmt_tree l.list) block)) (to (map stmt_tree l.list))) (ahead l.tokens);
  begun : IsTrue l.more → begins kind.RightBrace (ahead l.tokens) ≡ false;
  no_longer : length (ahead l.tokens) ≤ length (ahead l.fn.tokens);
}

abbrev pub decreases-add_stmts-members : goal.decreases-add_stmts-members
decreases-add_stmts-members l = length (ahead l.tokens)
