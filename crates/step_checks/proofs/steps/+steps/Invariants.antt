use Rattle.std.proofs.Common.{◌≡◌, ◌+◌, ◌*◌, drop, map}
use denote.Param.Weighed.{most}
use Rattle.lk_claims.specs.declared.step.ProofStep.{size-ProofStep}
use Rattle.lk_claims.specs.Claim.{value_type}
use Rattle.lk_claims.specs.Step.{step_trees}
use Rattle.claim_types.specs.Views.{records_of}
use Rattle.step_checks.specs.Tests as tests
use Rattle.step_checks.proofs.steps.+steps.Given as goal

abbrev pub decreases-step_passes : goal.decreases-step_passes
decreases-step_passes l = 3 * size-ProofStep l.step.now

abbrev pub decreases-block_passes : goal.decreases-block_passes
decreases-block_passes l = 3 * most size-ProofStep l.steps.now + 2

abbrev pub decreases-steps_pass : goal.decreases-steps_pass
decreases-steps_pass l = 3 * most size-ProofStep l.steps.now + 1

-- the steps so far pass, and the labels around are as they were
abbrev pub invariant-steps_pass-loop-step : goal.invariant-steps_pass-loop-step
invariant-steps_pass-loop-step l =
    (l.labels ≡ l.fn.labels)
    × (tests.steps_pass (records_of l.records) (map value_type l.vars) l.fn.labels l.depth (step_trees l.steps)
    ≡ tests.steps_pass (records_of l.records) (map value_type l.vars) l.fn.labels l.depth (step_trees (drop l.step-index l.steps)))
