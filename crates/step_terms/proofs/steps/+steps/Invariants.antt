use Rattle.std.proofs.Common.{◌≡◌, ◌+◌, ◌*◌, map, take, length, true}
use denote.Param.Weighed.{most}
use Rattle.term_trees.specs.Term.{sort_type}
use Rattle.term_store.specs.Store.{GainsAmong}
use Rattle.lk_claims.specs.declared.step.ProofStep.{size-ProofStep}
use Rattle.lk_claims.specs.Step as claim_steps
use Rattle.deduction.specs.Steps as term_steps
use Rattle.leg_rules.specs.Sequents.{after_steps, step_terms, are_small_steps, outermost}
use Rattle.leg_states.specs.State.{state_of, IsOver}
use Rattle.step_terms.specs.Steps.{ClaimMore, steps_subtrees}
use Rattle.step_terms.proofs.steps.+steps.Given as goal

abbrev pub decreases-read_step : goal.decreases-read_step
decreases-read_step l = 3 * size-ProofStep l.step.now

abbrev pub decreases-read_inner : goal.decreases-read_inner
decreases-read_inner l = 3 * most size-ProofStep l.steps.now + 2

abbrev pub decreases-read_steps : goal.decreases-read_steps
decreases-read_steps l = 3 * most size-ProofStep l.steps.now + 1

-- what has been read of the steps so far
abbrev pub invariant-read_steps-loop-step : goal.invariant-read_steps-loop-step
invariant-read_steps-loop-step l = record {
  state : state_of l.store l.state
      ≡ after_steps (map sort_type l.sorts) (state_of l.fn.store l.fn.state) (claim_steps.step_trees (take l.step-index l.steps));
  terms : term_steps.step_trees l.terms
      ≡ step_terms (map sort_type l.sorts) (state_of l.fn.store l.fn.state) (claim_steps.step_trees (take l.step-index l.steps));
  over : IsOver (length l.sorts) l.store l.state;
  small : are_small_steps (step_terms (map sort_type l.sorts) (state_of l.fn.store l.fn.state) (claim_steps.step_trees (take l.step-index l.steps))) ≡ true;
  claims : ClaimMore l.fn.store l.fn.claims l.store l.claims
      (outermost (step_terms (map sort_type l.sorts) (state_of l.fn.store l.fn.state) (claim_steps.step_trees (take l.step-index l.steps))));
  gains : GainsAmong l.fn.store l.store
      (steps_subtrees (step_terms (map sort_type l.sorts) (state_of l.fn.store l.fn.state) (claim_steps.step_trees l.steps)));
}
