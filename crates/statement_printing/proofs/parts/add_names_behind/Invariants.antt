use Rattle.std.proofs.Common.{take}
use Rattle.expression_printing.specs.Printed.{Adds}
use Rattle.statement_printing.specs.Printed.{names_behind}
use Rattle.statement_printing.proofs.parts.add_names_behind.Given as goal

-- the names so far were added
abbrev pub invariant-loop-name : goal.invariant-loop-name
invariant-loop-name l = Adds l.fn.text.items l.text.items (names_behind (take l.name-index l.names))
