use Rattle.std.proofs.Common.{◌∷◌, ◌++◌}
use Rattle.std.proofs.lemmas.Result.{on_ok_weaker}
use Rattle.key_rules.specs.Codes.{flag_code}
use Rattle.key_rules.specs.Writing.{number_bytes, list_bytes}
use Rattle.leg_key.specs.Parts.{claim_key, step_key}
use Rattle.leg_key.proofs.Fitting.{steps_are_few, steps_all_fit}
use Rattle.leg_key.proofs.Joining.{then_bytes, said, steps_key}
use Rattle.leg_key.proofs.steps.+steps.Goals as goal

pub add_block-returns-clause-written : goal.add_block-returns-clause-written
add_block-returns-clause-written t c =
    on_ok_weaker c.add_steps.result
    (λ h. then_bytes _ _ _ (1 ∷ (number_bytes c.args.label ++ (flag_code c.args.bind ∷ number_bytes c.args.assumed))) _ c.in_ok-add_block_head.ensures.written
    (then_bytes _ _ _ (claim_key c.args.claim.now) _ c.in_ok-add_claim.ensures.written
    (said _ _ (list_bytes step_key c.args.steps.now) _ h (steps_key c.args.steps.now)))) c.add_steps.ensures.written

pub add_block-returns-clause-fits : goal.add_block-returns-clause-fits
add_block-returns-clause-fits t c =
    on_ok_weaker c.add_steps.result
    (λ h. (
      c.in_ok-add_block_head.ensures.fits.0,
      c.in_ok-add_block_head.ensures.fits.1,
      c.in_ok-add_claim.ensures.fits,
      steps_are_few c.args.steps.now h,
      steps_all_fit c.args.steps.now h,
    )) c.add_steps.ensures.fits
