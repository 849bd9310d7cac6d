use Rattle.std.proofs.Common.{◌≡◌, map, take}
use Rattle.slang_tree.specs.StmtTree.{stmt_tree, stmts_of}
use Rattle.type_faults.specs.FirstFault.{with_first}
use Rattle.height_rules.specs.Faults.{stmts_too_high}
use Rattle.height_judging.proofs.statements.+statements.Given as goal

-- the statements so far were told of
abbrev pub invariant-statement_heights-loop-stmt : goal.invariant-statement_heights-loop-stmt
invariant-statement_heights-loop-stmt l = l.told.found ≡ with_first l.fn.told.found (stmts_too_high (stmts_of (map stmt_tree (take l.stmt-index l.stmts))))
