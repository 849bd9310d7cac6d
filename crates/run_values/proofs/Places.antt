-- Places within a length.
use Rattle.std.proofs.Common.{◌≡◌, ℕ, ℤ, pos, negsuc, ◌<◌, ◌≤◌, true, false, refl, arith}
use Rattle.run_values.specs.Reading.{is_within}

pub within : (n length : ℕ) → n < length → is_within length (pos n) ≡ true
within n length h = grind (arith, h)

pub not_within : (n length : ℕ) → length ≤ n → is_within length (pos n) ≡ false
not_within n length h = grind (arith, h)
