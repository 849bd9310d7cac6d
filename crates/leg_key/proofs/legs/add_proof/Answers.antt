use Rattle.std.proofs.Common.{[], ◌∷◌}
use Rattle.std.proofs.lemmas.Result.{on_ok_weaker}
use Rattle.key_rules.specs.Writing.{list_bytes}
use Rattle.leg_key.specs.Parts.{step_key}
use Rattle.leg_key.proofs.Fitting.{proof_fits}
use Rattle.leg_key.proofs.Joining.{then_bytes, said, steps_key}
use Rattle.leg_key.proofs.legs.add_proof.Goals as goal

pub returns-clause-written : goal.returns-clause-written
returns-clause-written c =
    on_ok_weaker c.add_steps.result
    (λ h. then_bytes _ _ _ (4 ∷ []) _ c.in_ok-add_byte.ensures (said _ _ (list_bytes step_key c.args.steps.now) _ h (steps_key c.args.steps.now)))
    c.add_steps.ensures.written

pub returns-clause-fits : goal.returns-clause-fits
returns-clause-fits c = on_ok_weaker c.add_steps.result (proof_fits c.args.steps.now) c.add_steps.ensures.fits
