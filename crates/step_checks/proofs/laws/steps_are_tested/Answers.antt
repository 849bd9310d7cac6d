use Rattle.std.proofs.Common.{refl}
use Rattle.std.specs.Prelude.{nat_eq}
use Rattle.std.specs.Set.{is_member}
use Rattle.step_checks.proofs.Tested.{steps_told, steps_tested}
use Rattle.step_checks.proofs.laws.steps_are_tested.Goals as goal

pub returns : goal.returns
returns c = λ records variables labels depth steps. (
  steps_told records variables labels (is_member nat_eq labels) (λ n. refl) depth steps,
  steps_tested records variables labels (is_member nat_eq labels) (λ n. refl) depth steps,
)
