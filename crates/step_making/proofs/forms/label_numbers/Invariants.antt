use Rattle.std.proofs.Common.{◌≡◌, take}
use Rattle.typed_texts.specs.Claims.{label_numbers}
use Rattle.step_making.proofs.forms.label_numbers.Given as goal

abbrev pub invariant-loop-label : goal.invariant-loop-label
invariant-loop-label l = l.numbers ≡ label_numbers (take l.label-index l.labels)
