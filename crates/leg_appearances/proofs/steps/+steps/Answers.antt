use Rattle.std.proofs.Common.{map, refl, sym, ◌∙◌}
use Rattle.lk_claims.specs.Claim.{claim_tree, value_type}
use Rattle.lk_claims.specs.Step.{step_tree, step_trees}
use Rattle.leg_appearances.specs.Seen.{appearing, step_appearing, steps_appearing}
use Rattle.leg_appearances.proofs.Joined.{goes_on, ends, place_goes_on, place_ends}
use Rattle.leg_appearances.proofs.steps.+steps.Goals as goal

pub with_block-returns-in-Some : goal.with_block-returns-in-Some
with_block-returns-in-Some t c =
    goes_on c.args.table.now (map value_type c.args.vars.now) c.args.seen c.in-Some.next (appearing (claim_tree c.args.assumption.now))
    (steps_appearing (step_trees c.args.steps.now))
    c.with_claim.result c.with_steps.result c.with_claim.ensures c.in-Some.is c.with_steps.ensures

pub with_block-returns-in-None : goal.with_block-returns-in-None
with_block-returns-in-None t c =
    ends c.args.table.now (map value_type c.args.vars.now) c.args.seen (appearing (claim_tree c.args.assumption.now))
    (steps_appearing (step_trees c.args.steps.now)) c.with_claim.result c.with_claim.ensures c.in-None.is

pub with_steps-returns-in-None : goal.with_steps-returns-in-None
with_steps-returns-in-None t c =
    sym (c.loop-step.invariant
    ∙ place_ends c.args.table.now (map value_type c.args.vars.now) (λ step. step_appearing (step_tree step)) (λ steps. steps_appearing (step_trees steps))
    (λ step steps. refl) c.loop-step.so_far c.args.steps.now c.loop-step.step-index c.step-item.result c.with_step.result c.loop-step-test.true
    c.step-item.is c.with_step.ensures c.in-None.is)

pub with_steps-loop-step-preserved : goal.with_steps-loop-step-preserved
with_steps-loop-step-preserved t c =
    c.loop-step.invariant
    ∙ place_goes_on c.args.table.now (map value_type c.args.vars.now) (λ step. step_appearing (step_tree step)) (λ steps. steps_appearing (step_trees steps))
    (λ step steps. refl) c.loop-step.so_far c.in-Some.next c.args.steps.now c.loop-step.step-index c.step-item.result c.with_step.result
    c.loop-step-test.true c.step-item.is c.with_step.ensures c.in-Some.is
