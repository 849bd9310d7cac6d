-- Reads out of range.
use Rattle.std.proofs.Common.{◌≡◌, ℕ, zero, suc, ◌<◌, ◌≤◌, ℤ, pos, negsuc, true, false, refl, arith}
use Rattle.slang_values.specs.Value.{Records, Value, unit, number, truth, sequence, record_value, Values, no_values, value_then, count, value_at, default, size_of, read}
use Rattle.run_values.specs.Reading.{is_within}
use Rattle.claim_values.specs.Answers.{default_element}

past : (vs : Values) (n : ℕ) (v : Value) → count vs ≤ n → value_at vs n v ≡ v
past no_values n v h = refl
past (value_then w vs) zero v h = absurd (omega (arith, h))
past (value_then w vs) (suc n) v h = past vs n v (omega (arith, h))

beyond : (n length : ℕ) → is_within length (pos n) ≡ false → length ≤ n
beyond n length h = grind (arith, h)

pub read_outside : (records : Records) (v : Value) (place : ℤ) → is_within (size_of v) place ≡ false → read records v place ≡ default_element records v
read_outside records unit place h = refl
read_outside records (number z) place h = refl
read_outside records (truth b) place h = refl
read_outside records (sequence t vs) (pos n) h = past vs n (default records t) (beyond n (count vs) h)
read_outside records (sequence t vs) (negsuc n) h = refl
read_outside records (record_value n vs) place h = refl

pub ruleset read_lines = (read_outside)
