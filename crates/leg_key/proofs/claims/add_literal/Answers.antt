use Rattle.std.proofs.Common.{[], ◌∷◌, ap}
use Rattle.std.specs.Int.{w128}
use Rattle.std.proofs.lemmas.Int.{to_z-of_z}
use Rattle.std.proofs.lemmas.Result.{on_ok_weaker}
use Rattle.key_rules.specs.Writing.{literal_bytes}
use Rattle.leg_key.proofs.Joining.{then_bytes, said}
use Rattle.leg_key.proofs.claims.add_literal.Goals as goal

pub returns-clause-written : goal.returns-clause-written
returns-clause-written c =
    on_ok_weaker c.add_wide_number.result
    (λ h. then_bytes _ _ _ (0 ∷ []) (literal_bytes c.args.z) c.in_ok-add_byte.ensures
    (said _ _ _ (literal_bytes c.args.z) h (ap literal_bytes (to_z-of_z w128 c.args.z c.ranges.z)))) c.add_wide_number.ensures

pub returns-clause-fits : goal.returns-clause-fits
returns-clause-fits c = on_ok_weaker c.add_wide_number.result (λ h. c.ranges.z) c.add_wide_number.ensures
