use Rattle.std.proofs.Common.{◌≡◌, [], take}
use Rattle.type_rules.specs.Steps.{repeated_labels}
use Rattle.type_faults.specs.FirstFault.{with_first}
use Rattle.proof_judging.proofs.Labels.{HasNumbers, numbers_behind}
use Rattle.proof_judging.proofs.repeating.repeated.Given as goal

-- The labels so far were told of, and their numbers are in the set.
abbrev pub invariant-loop-label : goal.invariant-loop-label
invariant-loop-label l = record {
  told : l.told.found ≡ with_first l.fn.told.found (repeated_labels [] (take l.label-index l.labels));
  has : HasNumbers l.numbers (numbers_behind [] (take l.label-index l.labels));
}
