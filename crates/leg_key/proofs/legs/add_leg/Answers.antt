use Rattle.std.proofs.Common.{rules}
use Rattle.std.proofs.lemmas.Result.{on_ok_weaker}
use Rattle.leg_key.proofs.Fitting.{leg_fits}
use Rattle.leg_key.proofs.Joining.{said, whole_key}
use Rattle.leg_key.proofs.legs.add_leg.Goals as goal

pub returns-clause-written : goal.returns-clause-written
returns-clause-written c =
    on_ok_weaker c.add_lists.result
    (λ h. said _ _ _ _ h (whole_key c.args.leg.now _ _ _ (search rules) (search rules) (search rules))) c.add_lists.ensures.written

pub returns-clause-fits : goal.returns-clause-fits
returns-clause-fits c =
    on_ok_weaker c.add_lists.result (leg_fits c.args.leg.now _ _ _ (search rules) (search rules) (search rules)) c.add_lists.ensures.fits
