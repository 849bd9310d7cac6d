-- What the tests say.
use Rattle.std.specs.Prelude.{◌≡◌, ℕ, nat_eq, true, List}
use Rattle.std.specs.Set.{is_member}
use Rattle.slang_values.specs.Value.{ValueType, Records}
use Rattle.program_trees.specs.Claims.{ProofStepTrees}
use Rattle.leg_rules.specs.Typed.{AreTypedSteps}
use Rattle.leg_forms.specs.WellFormed.{AreWellFormedSteps}
use Rattle.step_checks.specs.Tests.{steps_pass}

-- Steps pass exactly where they are well typed among the symbols of the blocks with these labels, and well formed.
abbrev pub StepsAreTested : Type 0
StepsAreTested = (records : Records) (variables : List ValueType) (labels : List ℕ) (depth : ℕ) (steps : ProofStepTrees ℕ)
    → (steps_pass records variables labels depth steps ≡ true
    → AreTypedSteps records variables (is_member nat_eq labels) steps × AreWellFormedSteps depth steps)
    × (AreTypedSteps records variables (is_member nat_eq labels) steps → AreWellFormedSteps depth steps
    → steps_pass records variables labels depth steps ≡ true)
