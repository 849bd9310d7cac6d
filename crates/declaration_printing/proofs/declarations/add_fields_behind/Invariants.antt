use Rattle.std.proofs.Common.{map, take}
use Rattle.slang_tree.specs.DeclTree.{field_tree}
use Rattle.declaration_printing.specs.Printed.{params_behind}
use Rattle.expression_printing.specs.Printed.{Adds}
use Rattle.declaration_printing.proofs.declarations.add_fields_behind.Given as goal

-- those so far were added
abbrev pub invariant-loop-field : goal.invariant-loop-field
invariant-loop-field l = Adds l.fn.text.items l.text.items (params_behind (map field_tree (take l.field-index l.fields)))
