-- What the test says.
use Rattle.std.specs.Prelude.{◌≡◌, true}
use Rattle.program_trees.specs.Legs.{LegTree}
use Rattle.leg_forms.specs.WellFormed.{IsWellFormedLeg}
use Rattle.leg_checks.specs.Tests.{leg_passes}

-- A leg passes exactly where it is well formed.
abbrev pub LegsAreTested : Type 0
LegsAreTested = (leg : LegTree) → (leg_passes leg ≡ true → IsWellFormedLeg leg) × (IsWellFormedLeg leg → leg_passes leg ≡ true)
