use Rattle.std.proofs.Common.{map, take}
use Rattle.slang_tree.specs.StmtTree.{stmt_tree}
use Rattle.print_declarations.specs.Accounts.{stmt_parts}
use Rattle.declaration_printing.specs.Printed.{part_lines}
use Rattle.expression_printing.specs.Printed.{Adds}
use Rattle.declaration_printing.proofs.methods.add_body.Given as goal

-- those so far were added
abbrev pub invariant-loop-stmt : goal.invariant-loop-stmt
invariant-loop-stmt l = Adds l.fn.text.items l.text.items (part_lines (stmt_parts l.light (map stmt_tree (take l.stmt-index l.stmts))))
