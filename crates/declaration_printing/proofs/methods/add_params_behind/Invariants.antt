use Rattle.std.proofs.Common.{map, take}
use Rattle.slang_tree.specs.DeclTree.{param_tree}
use Rattle.declaration_printing.specs.Printed.{params_behind}
use Rattle.expression_printing.specs.Printed.{Adds}
use Rattle.declaration_printing.proofs.methods.add_params_behind.Given as goal

-- those so far were added
abbrev pub invariant-loop-param : goal.invariant-loop-param
invariant-loop-param l = Adds l.fn.text.items l.text.items (params_behind (map param_tree (take l.param-index l.params)))
