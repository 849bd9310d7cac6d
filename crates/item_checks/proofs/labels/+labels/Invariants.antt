use Rattle.std.proofs.Common.{◌≡◌, ◌++◌, ◌+◌, ◌*◌, take}
use denote.Param.Weighed.{most}
use Rattle.program_trees.specs.Claims.{labels}
use Rattle.lk_claims.specs.declared.step.ProofStep.{size-ProofStep}
use Rattle.lk_claims.specs.Step.{step_trees}
use Rattle.item_checks.proofs.labels.+labels.Given as goal

abbrev pub decreases-add_labels_of : goal.decreases-add_labels_of
decreases-add_labels_of l = 3 * size-ProofStep l.step.now

abbrev pub decreases-add_block : goal.decreases-add_block
decreases-add_block l = 3 * most size-ProofStep l.steps.now + 2

abbrev pub decreases-add_labels : goal.decreases-add_labels
decreases-add_labels l = 3 * most size-ProofStep l.steps.now + 1

-- The labels of the steps so far were added.
abbrev pub invariant-add_labels-loop-step : goal.invariant-add_labels-loop-step
invariant-add_labels-loop-step l = l.labels ≡ l.fn.labels ++ labels (step_trees (take l.step-index l.steps))
