use Rattle.std.proofs.Common.{◌≡◌, ◌+◌, ◌*◌, ◌++◌, length, take}
use Rattle.std.specs.List.{AllByRecursion, flat_map}
use Rattle.lk_claims.specs.declared.step.ProofStep.{size-ProofStep}
use Rattle.key_rules.specs.Fits.{FitsStep}
use Rattle.key_rules.specs.Writing.{number_bytes}
use Rattle.leg_key.specs.Depth.{deepest}
use Rattle.lk_claims.specs.Step.{step_tree}
use Rattle.leg_key.specs.Parts.{step_key}
use Rattle.leg_key.proofs.steps.+steps.Given as goal

abbrev pub decreases-add_step : goal.decreases-add_step
decreases-add_step l = 3 * size-ProofStep l.step.now

abbrev pub decreases-add_block : goal.decreases-add_block
decreases-add_block l = 3 * deepest l.steps.now + 2

abbrev pub decreases-add_steps : goal.decreases-add_steps
decreases-add_steps l = 3 * deepest l.steps.now + 1

abbrev pub invariant-add_steps-loop-step : goal.invariant-add_steps-loop-step
invariant-add_steps-loop-step l = record {
  written : l.key.items ≡ l.fn.key.items ++ (number_bytes (length l.steps) ++ flat_map step_key (take l.step-index l.steps));
  fits : AllByRecursion (λ step. FitsStep (step_tree step)) (take l.step-index l.steps);
}
