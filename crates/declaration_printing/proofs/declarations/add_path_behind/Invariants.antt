use Rattle.std.proofs.Common.{map, take}
use Rattle.declaration_printing.specs.Printed.{path_behind}
use Rattle.expression_printing.specs.Printed.{Adds}
use Rattle.declaration_printing.proofs.declarations.add_path_behind.Given as goal

-- those so far were added
abbrev pub invariant-loop-name : goal.invariant-loop-name
invariant-loop-name l = Adds l.fn.text.items l.text.items (path_behind (take l.name-index l.names))
