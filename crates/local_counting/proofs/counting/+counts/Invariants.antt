use Rattle.std.proofs.Common.{◌≡◌, ◌+◌, ◌*◌, max, take, map}
use Rattle.slang_tree.specs.declared.statement.Stmt.{size-Stmt}
use Rattle.slang_tree.specs.StmtTree.{stmt_tree, stmts_of}
use Rattle.type_rules.specs.Statements.{local_counts}
use Rattle.statement_judging.specs.Sizes.{deepest, deepest_else}
use Rattle.local_counting.proofs.counting.+counts.Given as goal

abbrev pub decreases-local_count : goal.decreases-local_count
decreases-local_count l = 3 * size-Stmt l.stmt.now

abbrev pub decreases-branch_count : goal.decreases-branch_count
decreases-branch_count l = 3 * max (deepest l.then.now) (deepest_else l.otherwise.now) + 2

abbrev pub decreases-local_counts : goal.decreases-local_counts
decreases-local_counts l = 3 * deepest l.stmts.now + 1

-- those of the statements so far
abbrev pub invariant-local_counts-loop-stmt : goal.invariant-local_counts-loop-stmt
invariant-local_counts-loop-stmt l = l.count ≡ local_counts (stmts_of (map stmt_tree (take l.stmt-index l.stmts)))
