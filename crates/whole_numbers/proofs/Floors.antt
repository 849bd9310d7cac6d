-- The floor of n / d for a positive d, as `n.div_euclid(d)` gives it: the greatest whole number z with d * z at most n.
use Rattle.std.proofs.Common.{◌≡◌, zero, suc, ◌≤◌, ◌↔◌, ℤ, pos, negsuc, ◌+ℤ◌, ◌*ℤ◌, ◌≤ℤ◌, ◌<ℤ◌, unsigned_abs, div-le_self, arith}
use Rattle.std.proofs.lemmas.Int.{ints}
use Rattle.std.specs.Int.{int_div_euclid}
use Rattle.whole_numbers.proofs.Products.{mul-sum, mul_le, lt_of_mul}

-- the floor is at most the quotient, and less than 1 below it
pub floor_bounds : (n d : ℤ) → pos 0 <ℤ d → ((d *ℤ int_div_euclid n d) ≤ℤ n) × (n <ℤ (d *ℤ int_div_euclid n d +ℤ d))
floor_bounds (pos n) (pos zero) h = absurd (omega (arith, ints))
floor_bounds (pos n) (pos (suc d)) h = (omega (arith, ints), omega (arith, ints))
floor_bounds (negsuc n) (pos zero) h = absurd (omega (arith, ints))
floor_bounds (negsuc n) (pos (suc d)) h = (omega (arith, ints), omega (arith, ints))
floor_bounds (pos n) (negsuc d) h = absurd (omega (arith, ints))
floor_bounds (negsuc n) (negsuc d) h = absurd (omega (arith, ints))

-- no whole number of d is more
pub below_floor : (n d z : ℤ) → pos 0 <ℤ d → (d *ℤ z) ≤ℤ n → z ≤ℤ int_div_euclid n d
below_floor n d z h p =
    let q = int_div_euclid n d in
    let b = (floor_bounds n d h).1 in
    let below : z <ℤ (q +ℤ pos 1) = lt_of_mul d z (q +ℤ pos 1) h (omega (arith, ints, b, mul-sum d q (pos 1))) in
    omega (arith, ints)

pub floor_below : (n d z : ℤ) → pos 0 <ℤ d → z ≤ℤ int_div_euclid n d → (d *ℤ z) ≤ℤ n
floor_below n d z h p = omega (arith, ints, (floor_bounds n d h).0, mul_le d z (int_div_euclid n d) (omega (arith, ints)) p)

-- the two together
pub floor_is_greatest : (n d z : ℤ) → pos 0 <ℤ d → ((d *ℤ z) ≤ℤ n) ↔ (z ≤ℤ int_div_euclid n d)
floor_is_greatest n d z h = (below_floor n d z h, floor_below n d z h)

pub floor-product : (d z : ℤ) → pos 0 <ℤ d → int_div_euclid (d *ℤ z) d ≡ z
floor-product d z h =
    let q = int_div_euclid (d *ℤ z) d in
    let low : z ≤ℤ q = below_floor (d *ℤ z) d z h (omega (arith, ints)) in
    let high : q <ℤ (z +ℤ pos 1) = lt_of_mul d q (z +ℤ pos 1) h (omega (arith, ints, (floor_bounds (d *ℤ z) d h).0, mul-sum d z (pos 1))) in
    omega (arith, ints)

pub floor-one : (n : ℤ) → int_div_euclid n (pos 1) ≡ n
floor-one n = let b = floor_bounds n (pos 1) (omega (arith, ints)) in omega (arith, ints)

-- a floor is no larger than what it is taken of
pub abs-floor : (n d : ℤ) → pos 0 <ℤ d → unsigned_abs (int_div_euclid n d) ≤ unsigned_abs n
abs-floor (pos n) (pos d) h = div-le_self n d
abs-floor (negsuc n) (pos d) h = omega (arith, div-le_self n d)
abs-floor (pos n) (negsuc d) h = absurd (omega (arith, ints))
abs-floor (negsuc n) (negsuc d) h = absurd (omega (arith, ints))
