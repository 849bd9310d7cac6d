use Rattle.std.proofs.Common.{sym, ap, ◌∙◌}
use Rattle.std.specs.Option.{option_map}
use Rattle.std.proofs.lemmas.Result.{IfOk-weaker}
use Rattle.lk_programs.specs.LegData.{leg_tree}
use Rattle.leg_key.specs.Decoding.{IsLegOf, IsTestedLeg}
use Rattle.leg_key.proofs.Decoded.{bytes_are, none_read, leg_read}
use Rattle.leg_key.proofs.decoding.decode.Goals as goal

pub returns-in-None : goal.returns-in-None
returns-in-None c =
    none_read c.args.key.now (bytes_are c.args.key.now c.type_inv.key) (sym (ap (option_map leg_tree) c.in-None.is) ∙ c.in_ok-leg.ensures)

pub returns-in-Some : goal.returns-in-Some
returns-in-Some c =
    IfOk-weaker c.well_formed-in-Some.result (IsTestedLeg c.in-Some.leg) (IsLegOf c.args.key.now)
    (leg_read c.args.key.now (bytes_are c.args.key.now c.type_inv.key) c.in-Some.leg (sym (ap (option_map leg_tree) c.in-Some.is) ∙ c.in_ok-leg.ensures))
    c.well_formed-in-Some.ensures
