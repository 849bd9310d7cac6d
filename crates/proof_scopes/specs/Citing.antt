-- What citing tells.
use Rattle.std.specs.Prelude.{◌≡◌, ℕ, List, Option, Some, None}
use Rattle.deduction_rules.specs.Step.{Cited}
use Rattle.deduction_rules.specs.Deduction.{Citing, missing, found}

-- the first label that is not visible, or all that is cited
abbrev pub IsCiting : Option ℕ → List Cited → Citing → Type 0
IsCiting None cited citing = citing ≡ found cited
IsCiting (Some label) cited citing = citing ≡ missing label
