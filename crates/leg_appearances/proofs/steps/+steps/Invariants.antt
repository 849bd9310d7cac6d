use Rattle.std.proofs.Common.{◌≡◌, ◌+◌, ◌*◌, map, drop}
use denote.Param.Weighed.{most}
use Rattle.lk_claims.specs.declared.step.ProofStep.{size-ProofStep}
use Rattle.lk_claims.specs.Claim.{value_type}
use Rattle.lk_claims.specs.Step.{step_trees}
use Rattle.leg_appearances.specs.Seen.{all_seen, steps_appearing}
use Rattle.leg_appearances.proofs.steps.+steps.Given as goal

abbrev pub decreases-with_step : goal.decreases-with_step
decreases-with_step l = 3 * size-ProofStep l.step.now

abbrev pub decreases-with_block : goal.decreases-with_block
decreases-with_block l = 3 * most size-ProofStep l.steps.now + 2

abbrev pub decreases-with_steps : goal.decreases-with_steps
decreases-with_steps l = 3 * most size-ProofStep l.steps.now + 1

-- The steps so far have appeared.
abbrev pub invariant-with_steps-loop-step : goal.invariant-with_steps-loop-step
invariant-with_steps-loop-step l =
    all_seen l.table (map value_type l.vars) l.fn.seen (steps_appearing (step_trees l.steps))
    ≡ all_seen l.table (map value_type l.vars) l.so_far (steps_appearing (step_trees (drop l.step-index l.steps)))
