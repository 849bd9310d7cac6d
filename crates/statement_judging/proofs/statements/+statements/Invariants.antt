use Rattle.std.proofs.Common.{◌+◌, ◌*◌, max, take, map}
use Rattle.slang_tree.specs.declared.statement.Stmt.{size-Stmt}
use Rattle.slang_tree.specs.StmtTree.{stmt_tree, stmts_of}
use Rattle.type_rules.specs.Meanings.{Scope}
use Rattle.name_scopes.specs.Fits.{Fits}
use Rattle.statement_judging.specs.Judged.{AreStatements}
use Rattle.statement_judging.specs.Keeps.{Keeps}
use Rattle.statement_judging.specs.Sizes.{deepest, deepest_else}
use Rattle.statement_judging.proofs.statements.+statements.Given as goal

abbrev pub decreases-judged_stmt : goal.decreases-judged_stmt
decreases-judged_stmt l = 5 * size-Stmt l.stmt.now

abbrev pub decreases-judged_branch : goal.decreases-judged_branch
decreases-judged_branch l = 5 * max (deepest l.then.now) (deepest_else l.otherwise.now) + 4

abbrev pub decreases-judged_loop : goal.decreases-judged_loop
decreases-judged_loop l = 5 * deepest l.body.now + 4

abbrev pub decreases-judged_else : goal.decreases-judged_else
decreases-judged_else l = 5 * deepest_else l.otherwise.now + 3

abbrev pub decreases-judged_block : goal.decreases-judged_block
decreases-judged_block l = 5 * deepest l.stmts.now + 2

abbrev pub decreases-judged_stmts : goal.decreases-judged_stmts
decreases-judged_stmts l = 5 * deepest l.stmts.now + 1

-- The statements so far were judged, and what was in scope is so still.
abbrev pub invariant-judged_stmts-loop-stmt : goal.invariant-judged_stmts-loop-stmt
invariant-judged_stmts-loop-stmt l = record {
  judged : (at : Scope) → Fits l.fn.scope at →
      AreStatements l.scope l.fn.told.found l.told.found at (stmts_of (map stmt_tree (take l.stmt-index l.stmts)));
  kept : Keeps l.fn.scope l.scope;
}
