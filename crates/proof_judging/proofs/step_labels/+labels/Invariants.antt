use Rattle.std.proofs.Common.{◌≡◌, ◌++◌, ◌+◌, ◌*◌, take, map}
use Rattle.slang_tree.specs.declared.statement.Step.{size-Step}
use Rattle.slang_tree.specs.StmtTree.{step_tree, steps_of}
use Rattle.type_rules.specs.Steps.{labels_of}
use Rattle.step_judging.specs.Sizes.{deepest}
use Rattle.proof_judging.proofs.step_labels.+labels.Given as goal

abbrev pub decreases-add_labels_of : goal.decreases-add_labels_of
decreases-add_labels_of l = 3 * size-Step l.step.now

abbrev pub decreases-add_block : goal.decreases-add_block
decreases-add_block l = 3 * deepest l.steps.now + 2

abbrev pub decreases-add_labels : goal.decreases-add_labels
decreases-add_labels l = 3 * deepest l.steps.now + 1

-- The labels of the steps so far were added.
abbrev pub invariant-add_labels-loop-step : goal.invariant-add_labels-loop-step
invariant-add_labels-loop-step l = l.labels ≡ l.fn.labels ++ labels_of (steps_of (map step_tree (take l.step-index l.steps)))
