-- Places in a sequence, and what stands there.
use Rattle.std.specs.Prelude.{◌≡◌, ℕ, ℤ, pos, Bool, true, false, ◌&&◌, int_le, int_lt, Option, Some, None}
use Rattle.slang_values.specs.Value.{Records, size_of, read}
use Rattle.slang_values.specs.Value as plain
use Rattle.run_values.specs.declared.value.Value.{Value}
use Rattle.run_values.specs.declared.held.Held.{Held}
use Rattle.run_values.specs.Value.{plain_value, held_value}

-- the place is one of a list of that length
abbrev pub is_within : ℕ → ℤ → Bool
is_within length place = int_le (pos 0) place && int_lt place (pos length)

-- the element at that place, exactly where there is one
abbrev pub IsElement : plain.Value → ℤ → Option Held → Type 0
IsElement value place None = is_within (size_of value) place ≡ false
IsElement value place (Some element) = (is_within (size_of value) place ≡ true) × ((records : Records) → held_value element ≡ read records value place)

abbrev pub IsElementOf : plain.Value → ℤ → Option Value → Type 0
IsElementOf value place None = is_within (size_of value) place ≡ false
IsElementOf value place (Some element) = (is_within (size_of value) place ≡ true) × ((records : Records) → plain_value element ≡ read records value place)
