-- The quotient that is rounded toward zero, `a / d`, and its remainder, `a % d`, which has the sign of a.
use Rattle.std.proofs.Common.{div-le_self, ◌≤◌, ◌≡◌, ◌≢◌, zero, suc, ◌<◌, ℤ, pos, negsuc, ◌+ℤ◌, ◌-ℤ◌, ◌*ℤ◌, ◌≤ℤ◌, ◌<ℤ◌, unsigned_abs, int_div, int_rem, refl, ap, mul-le-mul_left, arith}
use Rattle.std.proofs.lemmas.Int.{ints, quot-rem, rem_below, unsigned_abs-mul}
use Rattle.std.proofs.Math.IntN.{*ℤ_comm}
use Rattle.whole_numbers.proofs.Products.{mul-difference}

-- the quotient and the remainder give the number back
pub quotient-remainder : (a d : ℤ) → d *ℤ int_div a d +ℤ int_rem a d ≡ a
quotient-remainder a d = omega (arith, ints, quot-rem a d, *ℤ_comm d (int_div a d))

-- the remainder is smaller than the divisor
pub remainder_below : (a d : ℤ) → d ≢ pos 0 → unsigned_abs (int_rem a d) < unsigned_abs d
remainder_below a (pos zero) h = absurd (h refl)
remainder_below a (pos (suc d)) h = rem_below a (pos (suc d)) (omega arith)
remainder_below a (negsuc d) h = rem_below a (negsuc d) (omega arith)

-- and has the sign of the dividend
pub remainder_not_negative : (a d : ℤ) → pos 0 ≤ℤ a → pos 0 ≤ℤ int_rem a d
remainder_not_negative (pos a) d h = omega (arith, ints)
remainder_not_negative (negsuc a) d h = absurd (omega (arith, ints))

pub remainder_not_positive : (a d : ℤ) → a ≤ℤ pos 0 → int_rem a d ≤ℤ pos 0
remainder_not_positive (pos zero) d h = omega (arith, ints)
remainder_not_positive (pos (suc a)) d h = absurd (omega (arith, ints))
remainder_not_positive (negsuc a) d h = omega (arith, ints)

-- what is left of a number after a positive divisor's quotient, from both sides
pub remainder_bounds : (a d : ℤ) → pos 0 <ℤ d → ((pos 1 -ℤ d) ≤ℤ (a -ℤ d *ℤ int_div a d)) × ((a -ℤ d *ℤ int_div a d) ≤ℤ (d -ℤ pos 1))
remainder_bounds a d h =
    let e = quotient-remainder a d in
    let b : unsigned_abs (int_rem a d) < unsigned_abs d = remainder_below a d (λ z. omega (arith, ints)) in
    (omega (arith, ints), omega (arith, ints))

-- a multiple of d that is smaller than d is 0
small_multiple : (d z : ℤ) → unsigned_abs (d *ℤ z) < unsigned_abs d → z ≡ pos 0
small_multiple d (pos zero) h = refl
small_multiple d (pos (suc z)) h =
    absurd (omega (arith, unsigned_abs-mul d (pos (suc z)), mul-le-mul_left {m = 1} {n = suc z} (unsigned_abs d) (omega arith)))
small_multiple d (negsuc z) h =
    absurd (omega (arith, unsigned_abs-mul d (negsuc z), mul-le-mul_left {m = 1} {n = suc z} (unsigned_abs d) (omega arith)))

-- r is a remainder of a by d: smaller than d, and of the sign of a
abbrev pub IsRemainder : ℤ → ℤ → ℤ → Type 0
IsRemainder a d r = (unsigned_abs r < unsigned_abs d) × (pos 0 ≤ℤ a → pos 0 ≤ℤ r) × (a ≤ℤ pos 0 → r ≤ℤ pos 0)

close_remainders : (a d r s : ℤ) → IsRemainder a d r → IsRemainder a d s → unsigned_abs (r -ℤ s) < unsigned_abs d
close_remainders (pos a) d r s h p =
    let hr : pos 0 ≤ℤ r = h.1 (omega (arith, ints)) in
    let hs : pos 0 ≤ℤ s = p.1 (omega (arith, ints)) in
    omega (arith, ints, h.0, p.0)
close_remainders (negsuc a) d r s h p =
    let hr : r ≤ℤ pos 0 = h.2 (omega (arith, ints)) in
    let hs : s ≤ℤ pos 0 = p.2 (omega (arith, ints)) in
    omega (arith, ints, h.0, p.0)

-- there is one quotient and one remainder
pub truncation_unique : (a d q r : ℤ) → d *ℤ q +ℤ r ≡ a → IsRemainder a d r → (int_div a d ≡ q) × (int_rem a d ≡ r)
truncation_unique a d q r e h =
    let f = quotient-remainder a d in
    let ne : d ≢ pos 0 = λ z. omega (arith, ints, h.0) in
    let of_a : IsRemainder a d (int_rem a d) = (remainder_below a d ne, remainder_not_negative a d, remainder_not_positive a d) in
    let split : d *ℤ (int_div a d -ℤ q) ≡ r -ℤ int_rem a d = omega (arith, ints, mul-difference d (int_div a d) q) in
    let small : unsigned_abs (d *ℤ (int_div a d -ℤ q)) < unsigned_abs d = rw split (close_remainders a d r (int_rem a d) h of_a) in
    let none : int_div a d -ℤ q ≡ pos 0 = small_multiple d (int_div a d -ℤ q) small in
    let same : int_div a d ≡ q = omega (arith, ints) in
    let parts : d *ℤ int_div a d ≡ d *ℤ q = ap (λ (z : ℤ). d *ℤ z) same in
    (same, omega (arith, ints))

-- a multiple of d is divided without a remainder
pub exact-product : (d z : ℤ) → d ≢ pos 0 → (int_div (d *ℤ z) d ≡ z) × (int_rem (d *ℤ z) d ≡ pos 0)
exact-product d z h =
    truncation_unique (d *ℤ z) d z (pos 0) (omega (arith, ints)) (pos_abs d h, λ _. omega (arith, ints), λ _. omega (arith, ints))
  where
    pos_abs : (x : ℤ) → x ≢ pos 0 → 0 < unsigned_abs x
    pos_abs (pos zero) n = absurd (n refl)
    pos_abs (pos (suc x)) n = omega arith
    pos_abs (negsuc x) n = omega arith

-- a number without a remainder is the quotient's multiple
pub product-exact : (a d : ℤ) → int_rem a d ≡ pos 0 → d *ℤ int_div a d ≡ a
product-exact a d h = omega (arith, ints, quotient-remainder a d)

-- a quotient is no larger than what is divided
pub abs-div : (a d : ℤ) → unsigned_abs (int_div a d) ≤ unsigned_abs a
abs-div (pos a) (pos d) = div-le_self a d
abs-div (pos a) (negsuc d) = omega (arith, ints, div-le_self a (suc d))
abs-div (negsuc a) (pos d) = omega (arith, ints, div-le_self (suc a) d)
abs-div (negsuc a) (negsuc d) = div-le_self (suc a) (suc d)
