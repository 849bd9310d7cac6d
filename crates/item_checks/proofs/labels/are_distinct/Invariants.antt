use Rattle.std.proofs.Common.{◌≡◌, [], take, drop}
use Rattle.item_checks.specs.Tests.{are_new}
use Rattle.item_checks.proofs.StepLabels.{HasNumbers, behind}
use Rattle.item_checks.proofs.labels.are_distinct.Given as goal

-- The numbers so far are new and in the set.
abbrev pub invariant-loop-number : goal.invariant-loop-number
invariant-loop-number l = record {
  told : are_new [] l.numbers ≡ are_new (behind [] (take l.number-index l.numbers)) (drop l.number-index l.numbers);
  has : HasNumbers l.seen (behind [] (take l.number-index l.numbers));
}
