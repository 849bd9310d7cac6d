use Rattle.std.proofs.Common.{take}
use Rattle.expression_printing.specs.Printed.{Adds}
use Rattle.step_printing.specs.Printed.{labels_behind}
use Rattle.step_printing.proofs.lines.add_labels.Given as goal

-- the labels so far were added
abbrev pub invariant-loop-label : goal.invariant-loop-label
invariant-loop-label l = Adds l.fn.text.items l.text.items (labels_behind (take l.label-index l.labels))
