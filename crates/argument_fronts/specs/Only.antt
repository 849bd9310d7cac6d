-- An answer that is the only one.
use Rattle.std.specs.Prelude.{◌≡◌, Option, Some, None}

-- What was found has the property, and nothing else has it; where nothing was found, nothing has it.
abbrev pub IsOnly : {X A : Type 0} → (X → A) → (A → Type 0) → Option X → Type 0
IsOnly {X} {A} view P None = (a : A) → P a → ⊥
IsOnly {X} {A} view P (Some x) = P (view x) × ((a : A) → P a → a ≡ view x)
