use Rattle.std.proofs.Common.{◌+◌, ◌*◌, take}
use Rattle.slang_tree.specs.declared.statement.Stmt.{size-Stmt}
use Rattle.expression_printing.specs.Printed.{Adds}
use Rattle.statement_printing.specs.Sizes.{deepest, deepest_of}
use Rattle.statement_printing.specs.Printed.{stmt_lines}
use Rattle.statement_printing.proofs.statements.+printing.Given as goal

abbrev pub decreases-add_stmt : goal.decreases-add_stmt
decreases-add_stmt l = 8 * size-Stmt l.stmt.now

abbrev pub decreases-add_loop : goal.decreases-add_loop
decreases-add_loop l = 8 * deepest l.body.now + 2

abbrev pub decreases-add_otherwise : goal.decreases-add_otherwise
decreases-add_otherwise l = 8 * deepest_of l.otherwise.now + 4

abbrev pub decreases-add_else : goal.decreases-add_else
decreases-add_else l = 8 * deepest l.stmts.now + 3

abbrev pub decreases-add_braced : goal.decreases-add_braced
decreases-add_braced l = 8 * deepest l.stmts.now + 2

abbrev pub decreases-add_stmts : goal.decreases-add_stmts
decreases-add_stmts l = 8 * deepest l.stmts.now + 1

-- the statements so far were added
abbrev pub invariant-add_stmts-loop-stmt : goal.invariant-add_stmts-loop-stmt
invariant-add_stmts-loop-stmt l = Adds l.fn.text.items l.text.items (stmt_lines l.light l.depth (take l.stmt-index l.stmts))
