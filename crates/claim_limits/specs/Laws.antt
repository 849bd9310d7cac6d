-- What the test says.
use Rattle.std.specs.Prelude.{◌≡◌, ℕ, ◌≤◌, true}
use Rattle.slang_values.specs.Measure.{height}
use Rattle.slang_values.specs.Typing.{IsClosed}
use Rattle.program_trees.specs.Claims.{ClaimTree}
use Rattle.claim_limits.specs.Limits.{within}

-- The test passes exactly where the claim is no higher than that and no bound variable of it is loose.
abbrev pub LimitsAreTested : Type 0
LimitsAreTested = (h n : ℕ) (a : ClaimTree ℕ)
    → (within h n a ≡ true → (height a ≤ h) × IsClosed n a) × ((height a ≤ h) × IsClosed n a → within h n a ≡ true)
