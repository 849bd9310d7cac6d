use Rattle.std.proofs.Common.{◌≡◌, sym, ◌∙◌}
use Rattle.std.specs.Prelude.{◌↔◌, IsTrue}
use Rattle.std.proofs.lemmas.Result.{IfOk-weaker}
use Rattle.leg_forms.specs.WellFormed.{IsWellFormedLeg}
use Rattle.lk_programs.specs.LegData.{leg_tree}
use Rattle.leg_checks.specs.Tests.{leg_passes}
use Rattle.leg_checks.proofs.Tested.{passes_told, passes_tested}
use Rattle.leg_checks.proofs.checking.is_well_formed.Goals as goal

pub returns : goal.returns
returns c =
    let leg = leg_tree c.args.leg.now in
    IfOk-weaker c.passes.result (λ b. b ≡ leg_passes leg) (λ b. IsTrue b ↔ IsWellFormedLeg leg)
    (λ b h. (λ t. passes_told leg (sym h ∙ t), λ w. h ∙ passes_tested leg w)) c.passes.ensures
