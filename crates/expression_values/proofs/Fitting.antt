-- Numbers that fit in 128 bits, quotients and remainders.
use Rattle.std.proofs.Common.{◌≡◌, ◌≢◌, zero, suc, ℤ, pos, negsuc, neg_ℤ, ◌^◌, int_le, int_lt, int_div, int_rem, Bool, true, false, ◌&&◌, FitsSigned, refl, arith}
use Rattle.std.specs.Int.{w128}
use Rattle.std.proofs.lemmas.Bool.{and_parts}
use Rattle.std.proofs.lemmas.Int.{ints}
use Rattle.slang_values.specs.Number.{quotient, remainder}
use Rattle.run_stops.specs.Wide.{fits}

is_true : (b : Bool) → (b ≡ false → ⊥) → b ≡ true
is_true true h = refl
is_true false h = absurd (h refl)

is_false : (b : Bool) → (b ≡ true → ⊥) → b ≡ false
is_false true h = absurd (h refl)
is_false false h = refl

both_true : (a b : Bool) → a ≡ true → b ≡ true → a && b ≡ true
both_true true b g h = h
both_true false b g h = g

pub fits_where : (z : ℤ) → FitsSigned w128 z → fits z ≡ true
fits_where z f =
    both_true (int_le (neg_ℤ (pos (2 ^ 127))) z) (int_lt z (pos (2 ^ 127)))
    (is_true (int_le (neg_ℤ (pos (2 ^ 127))) z) (λ (e : int_le (neg_ℤ (pos (2 ^ 127))) z ≡ false). omega (arith, ints, f, e)))
    (is_true (int_lt z (pos (2 ^ 127))) (λ (e : int_lt z (pos (2 ^ 127)) ≡ false). omega (arith, ints, f, e)))

pub where_fits : (z : ℤ) → fits z ≡ true → FitsSigned w128 z
where_fits z h =
    let parts = and_parts (int_le (neg_ℤ (pos (2 ^ 127))) z) (int_lt z (pos (2 ^ 127))) h in
    omega (arith, ints, parts.0, parts.1)

pub does_not_fit : (z : ℤ) → (FitsSigned w128 z → ⊥) → fits z ≡ false
does_not_fit z h = is_false _ (λ e. h (where_fits z e))

pub quotient_is : (a d : ℤ) → d ≢ pos 0 → quotient a d ≡ int_div a d
quotient_is a (pos zero) h = absurd (h refl)
quotient_is a (pos (suc d)) h = refl
quotient_is a (negsuc d) h = refl

pub remainder_is : (a d : ℤ) → d ≢ pos 0 → remainder a d ≡ int_rem a d
remainder_is a (pos zero) h = absurd (h refl)
remainder_is a (pos (suc d)) h = refl
remainder_is a (negsuc d) h = refl

pub ruleset number_lines = (fits_where, does_not_fit, quotient_is, remainder_is)
