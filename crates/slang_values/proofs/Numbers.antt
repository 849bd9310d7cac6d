-- Quantifiers over ranges, and division.
use Rattle.std.proofs.Common.{◌≡◌, ◌≢◌, ◌↔◌, ℕ, zero, suc, ◌<◌, ℤ, pos, negsuc, ◌+ℤ◌, ◌-ℤ◌, ◌*ℤ◌, ◌≤ℤ◌, ◌<ℤ◌, unsigned_abs, Bool, true, refl, sym, ap, subst, arith, ⊎_elim}
use Rattle.std.specs.List.{list_all, list_any}
use Rattle.std.proofs.lemmas.Bool.{false≢true, and_parts, and_from, or_cases, or_left, or_right}
use Rattle.std.proofs.lemmas.Int.{ints, by_lt_z, quot-rem, rem_below}
use Rattle.slang_values.specs.Number.{quotient, remainder, at_least_zero, numbers_from, numbers_between}

-- ---- ranges

all-from : (test : ℤ → Bool) (low : ℤ) (n : ℕ) → list_all test (numbers_from low n) ≡ true → (k : ℤ) → low ≤ℤ k → k <ℤ (low +ℤ pos n) → test k ≡ true
all-from test low zero h k above below = absurd (omega (arith, ints))
all-from test low (suc n) h k above below =
    let p = and_parts _ _ h in
    by_lt_z low k
    (λ more. all-from test (low +ℤ pos 1) n p.1 k (omega (arith, ints)) (omega (arith, ints)))
    (λ less. let same : low ≡ k = omega (arith, ints) in subst (λ z. test z ≡ true) same p.0)

from-all : (test : ℤ → Bool) (low : ℤ) (n : ℕ) → ((k : ℤ) → low ≤ℤ k → k <ℤ (low +ℤ pos n) → test k ≡ true) → list_all test (numbers_from low n) ≡ true
from-all test low zero h = refl
from-all test low (suc n) h =
    and_from _ _ (h low (omega (arith, ints)) (omega (arith, ints)))
    (from-all test (low +ℤ pos 1) n (λ k above below. h k (omega (arith, ints)) (omega (arith, ints))))

any-from : (test : ℤ → Bool) (low : ℤ) (n : ℕ) → list_any test (numbers_from low n) ≡ true → (k : ℤ) × (low ≤ℤ k) × (k <ℤ (low +ℤ pos n)) × (test k ≡ true)
any-from test low zero h = absurd (false≢true h)
any-from test low (suc n) h = ⊎_elim
    (λ here. (low, omega (arith, ints), omega (arith, ints), here))
    (λ later. let w = any-from test (low +ℤ pos 1) n later in (w.0, omega (arith, ints, w.1, w.2), omega (arith, ints, w.1, w.2), w.3))
    (or_cases _ _ h)

from-any : (test : ℤ → Bool) (low : ℤ) (n : ℕ) (k : ℤ) → low ≤ℤ k → k <ℤ (low +ℤ pos n) → test k ≡ true → list_any test (numbers_from low n) ≡ true
from-any test low zero k above below t = absurd (omega (arith, ints))
from-any test low (suc n) k above below t =
    by_lt_z low k
    (λ more. or_right _ _ (from-any test (low +ℤ pos 1) n k (omega (arith, ints)) (omega (arith, ints)) t))
    (λ less. let same : k ≡ low = omega (arith, ints) in or_left _ _ (subst (λ z. test z ≡ true) same t))

-- k is below high exactly where it is below the end of the range
end_of_range : (low high k d : ℤ) → d ≡ high -ℤ low → low ≤ℤ k → k <ℤ high → k <ℤ (low +ℤ pos (at_least_zero d))
end_of_range low high k (pos n) e above below = omega (arith, ints)
end_of_range low high k (negsuc n) e above below = absurd (omega (arith, ints))

range_of_end : (low high k d : ℤ) → d ≡ high -ℤ low → low ≤ℤ k → k <ℤ (low +ℤ pos (at_least_zero d)) → k <ℤ high
range_of_end low high k (pos n) e above below = omega (arith, ints)
range_of_end low high k (negsuc n) e above below = absurd (omega (arith, ints))

pub all_of_range : (test : ℤ → Bool) (low high : ℤ) → (list_all test (numbers_between low high) ≡ true) ↔ ((k : ℤ) → low ≤ℤ k → k <ℤ high → test k ≡ true)
all_of_range test low high = (
  λ h k above below. all-from test low _ h k above (end_of_range low high k _ refl above below),
  λ h. from-all test low _ (λ k above below. h k above (range_of_end low high k _ refl above below)),
)

pub any_of_range : (test : ℤ → Bool) (low high : ℤ) → (list_any test (numbers_between low high) ≡ true) ↔ ((k : ℤ) × (low ≤ℤ k) × (k <ℤ high) × (test k ≡ true))
any_of_range test low high = (
  λ h. let w = any-from test low _ h in (w.0, w.1, range_of_end low high w.0 _ refl w.1 w.2, w.3),
  λ w. from-any test low _ w.0 w.1 (end_of_range low high w.0 _ refl w.1 w.2) w.3,
)

-- ---- division

pub quotient-remainder : (a d : ℤ) → d ≢ pos 0 → a ≡ (quotient a d *ℤ d) +ℤ remainder a d
quotient-remainder a (pos zero) h = absurd (h refl)
quotient-remainder a (pos (suc d)) h = sym (quot-rem a (pos (suc d)))
quotient-remainder a (negsuc d) h = sym (quot-rem a (negsuc d))

pub remainder_below : (a d : ℤ) → d ≢ pos 0 → unsigned_abs (remainder a d) < unsigned_abs d
remainder_below a (pos zero) h = absurd (h refl)
remainder_below a (pos (suc d)) h = rem_below a (pos (suc d)) (omega arith)
remainder_below a (negsuc d) h = rem_below a (negsuc d) (omega arith)

pub remainder_not_negative : (a d : ℤ) → pos 0 ≤ℤ a → pos 0 ≤ℤ remainder a d
remainder_not_negative a (pos zero) h = omega (arith, ints)
remainder_not_negative (pos a) (pos (suc d)) h = omega (arith, ints)
remainder_not_negative (pos a) (negsuc d) h = omega (arith, ints)
remainder_not_negative (negsuc a) (pos (suc d)) h = absurd (omega (arith, ints))
remainder_not_negative (negsuc a) (negsuc d) h = absurd (omega (arith, ints))

pub remainder_not_positive : (a d : ℤ) → a ≤ℤ pos 0 → remainder a d ≤ℤ pos 0
remainder_not_positive a (pos zero) h = omega (arith, ints)
remainder_not_positive (pos zero) (pos (suc d)) h = omega (arith, ints)
remainder_not_positive (pos zero) (negsuc d) h = omega (arith, ints)
remainder_not_positive (pos (suc a)) (pos (suc d)) h = absurd (omega (arith, ints))
remainder_not_positive (pos (suc a)) (negsuc d) h = absurd (omega (arith, ints))
remainder_not_positive (negsuc a) (pos (suc d)) h = omega (arith, ints)
remainder_not_positive (negsuc a) (negsuc d) h = omega (arith, ints)

pub division_by_zero : (a d : ℤ) → d ≡ pos 0 → (quotient a d ≡ pos 0) × (remainder a d ≡ pos 0)
division_by_zero a d e = (ap (quotient a) e, ap (remainder a) e)
