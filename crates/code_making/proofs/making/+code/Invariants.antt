use Rattle.std.proofs.Common.{◌+◌, ◌*◌, max, take, map}
use Rattle.slang_tree.specs.declared.statement.Stmt.{size-Stmt}
use Rattle.slang_tree.specs.StmtTree.{stmt_tree, stmts_of}
use Rattle.lk_programs.specs.Program.{code_trees}
use Rattle.type_rules.specs.Meanings.{Scope}
use Rattle.name_scopes.specs.Fits.{Fits}
use Rattle.statement_judging.specs.Keeps.{Keeps}
use Rattle.statement_judging.specs.Sizes.{deepest, deepest_else}
use Rattle.typed_names.specs.Fields.{HasFields}
use Rattle.code_making.specs.Made.{AreCode}
use Rattle.code_making.proofs.making.+code.Given as goal

abbrev pub decreases-made_stmt : goal.decreases-made_stmt
decreases-made_stmt l = 6 * size-Stmt l.stmt.now

abbrev pub decreases-made_branch : goal.decreases-made_branch
decreases-made_branch l = 6 * max (deepest l.then.now) (deepest_else l.otherwise.now) + 5

abbrev pub decreases-made_loop : goal.decreases-made_loop
decreases-made_loop l = 6 * deepest l.body.now + 5

abbrev pub decreases-made_body : goal.decreases-made_body
decreases-made_body l = 6 * deepest l.body.now + 4

abbrev pub decreases-made_else : goal.decreases-made_else
decreases-made_else l = 6 * deepest_else l.otherwise.now + 3

abbrev pub decreases-made_block : goal.decreases-made_block
decreases-made_block l = 6 * deepest l.stmts.now + 2

abbrev pub decreases-made_code : goal.decreases-made_code
decreases-made_code l = 6 * deepest l.stmts.now + 1

-- The code of the statements so far was made, and what was in scope is so still.
abbrev pub invariant-made_code-loop-stmt : goal.invariant-made_code-loop-stmt
invariant-made_code-loop-stmt l = record {
  made : (at : Scope) → Fits l.fn.scope at → HasFields l.records at →
      AreCode l.numbers l.scope l.fn.nodes l.nodes l.fn.locals l.locals (code_trees l.made) at (stmts_of (map stmt_tree (take l.stmt-index l.stmts)));
  kept : Keeps l.fn.scope l.scope;
}
