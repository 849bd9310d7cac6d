-- What a cut means: a row and its cut are true of the same whole numbers, a cut stays canonical and within the limit, and the divisor of a row is the greatest one.
use Rattle.std.proofs.Common.{◌≡◌, ◌≢◌, ℕ, zero, suc, ◌+◌, ◌^◌, ◌<◌, ◌≤◌, ◌↔◌, true, List, [], ◌∷◌, length, drop, get_or, ℤ, pos, negsuc, neg_ℤ, ◌+ℤ◌, ◌*ℤ◌, ◌≤ℤ◌, ◌<ℤ◌, unsigned_abs, int_div, int_rem, ap, ap₂, sym, refl, ◌∙◌, subst, arith}
use Rattle.std.specs.Int.{int_div_euclid, ◌∣◌}
use Rattle.std.specs.Ordering.{int_eq}
use Rattle.std.proofs.lemmas.Bool.{and_parts, and_from, leb-true, le-leb}
use Rattle.std.proofs.lemmas.Bool.Decides.{Decides-int_eq}
use Rattle.std.proofs.lemmas.Int.{ints}
use Rattle.std.proofs.lemmas.List.{drop_more, drop_all}
use Rattle.std.proofs.lemmas.Nat.Gcd.{dvd_of_mod-eq-zero, mod-eq-zero_of_dvd, dvd_trans, dvd-zero, dvd_refl}
use Rattle.std.proofs.Math.IntN.{*ℤ-zero}
use Rattle.whole_numbers.specs.Gcd.{gcd}
use Rattle.whole_numbers.proofs.Divisors.{IsGcd-gcd, gcd_positive, gcd_le, gcd-zero, gcd-assoc, one-gcd, zero-gcd}
use Rattle.whole_numbers.proofs.Floors.{below_floor, floor_below, floor-one, abs-floor}
use Rattle.whole_numbers.proofs.Products.{mul-mul, mul-sum}
use Rattle.whole_numbers.proofs.Truncation.{product-exact, exact-product, abs-div}
use Rattle.lin_rows.specs.declared.row.RowPart.{RowPart}
use Rattle.lin_rows.specs.Inequality.{Inequality, RisesFrom, IsCanonical, sum_at, Holds, is_small, are_small, is_within}
use Rattle.lin_rows.specs.Cut.{divides, cut, cut_parts, divisor, tightened}

-- ---- one coefficient
exact : (g : ℤ) (p : RowPart) → int_eq (int_rem p.times g) (pos 0) ≡ true → g *ℤ int_div p.times g ≡ p.times
exact g p e = product-exact p.times g ((Decides-int_eq (int_rem p.times g) (pos 0)).0 e)

-- g divides z where it divides its absolute value
rem-zero : (z : ℤ) (g : ℕ) → g ∣ unsigned_abs z → int_rem z (pos g) ≡ pos 0
rem-zero (pos a) g h = ap pos (mod-eq-zero_of_dvd g h)
rem-zero (negsuc a) g h = ap (λ (n : ℕ). neg_ℤ (pos n)) (mod-eq-zero_of_dvd g h)

dvd_from_rem : (z : ℤ) (g : ℕ) → int_rem z (pos g) ≡ pos 0 → g ∣ unsigned_abs z
dvd_from_rem (pos a) g h = dvd_of_mod-eq-zero g (omega (arith, ints))
dvd_from_rem (negsuc a) g h = dvd_of_mod-eq-zero g (omega (arith, ints))

-- ---- what a cut says
sum_at-cut : (x : ℕ → ℤ) (g : ℤ) (ps : List RowPart) → divides g ps ≡ true → g *ℤ sum_at x (cut_parts g ps) ≡ sum_at x ps
sum_at-cut x g [] h = *ℤ-zero g
sum_at-cut x g (p ∷ ps) h =
    let t = and_parts (int_eq (int_rem p.times g) (pos 0)) (divides g ps) h in
    mul-sum g (int_div p.times g *ℤ x p.var) (sum_at x (cut_parts g ps))
    ∙ ap₂ ◌+ℤ◌
    (sym (mul-mul g (int_div p.times g) (x p.var)) ∙ ap (λ (z : ℤ). z *ℤ x p.var) (exact g p t.0))
    (sum_at-cut x g ps t.1)

-- a row and its cut are true of the same whole numbers
pub Holds-cut : (x : ℕ → ℤ) (row : Inequality) (g : ℤ) → pos 0 <ℤ g → divides g row.parts ≡ true → Holds x row ↔ Holds x (cut row g)
Holds-cut x row g h d =
    let s = sum_at x (cut row g).parts in
    let e = sum_at-cut x g row.parts d in (
      (λ p. below_floor row.bound g s h (subst (λ (z : ℤ). z ≤ℤ row.bound) (sym e) p)),
      (λ p. subst (λ (z : ℤ). z ≤ℤ row.bound) e (floor_below row.bound g s h p)),
    )

-- ---- a cut stays canonical
pub RisesFrom-cut : (low : ℕ) (g : ℤ) (ps : List RowPart) → divides g ps ≡ true → RisesFrom low ps → RisesFrom low (cut_parts g ps)
RisesFrom-cut low g [] d r = tt
RisesFrom-cut low g (p ∷ ps) d r =
    let t = and_parts (int_eq (int_rem p.times g) (pos 0)) (divides g ps) d in (
      r.0,
      (λ z. r.1 (sym (exact g p t.0) ∙ ap (λ (k : ℤ). g *ℤ k) z ∙ *ℤ-zero g)),
      RisesFrom-cut (suc p.var) g ps t.1 r.2,
    )

-- ---- a cut stays within the limit
is_small-le : (a b : ℤ) → unsigned_abs a ≤ unsigned_abs b → is_small b ≡ true → is_small a ≡ true
is_small-le a b h e = le-leb (unsigned_abs a) (2 ^ 60) (omega (arith, leb-true (unsigned_abs b) (2 ^ 60) e))

small_parts-cut : (g : ℤ) (ps : List RowPart) → are_small ps ≡ true → are_small (cut_parts g ps) ≡ true
small_parts-cut g [] h = refl
small_parts-cut g (p ∷ ps) h =
    let t = and_parts (is_small p.times) (are_small ps) h in
    and_from _ _ (is_small-le (int_div p.times g) p.times (abs-div p.times g) t.0) (small_parts-cut g ps t.1)

pub is_within-cut : (row : Inequality) (g : ℤ) → pos 0 <ℤ g → is_within row ≡ true → is_within (cut row g) ≡ true
is_within-cut row g h w =
    let t = and_parts (is_small row.bound) (are_small row.parts) w in
    and_from _ _ (is_small-le (int_div_euclid row.bound g) row.bound (abs-floor row.bound g h) t.0) (small_parts-cut g row.parts t.1)

-- ---- the divisor of a row
divides_from_dvd : (d : ℕ) (ps : List RowPart) → d ∣ divisor ps → divides (pos d) ps ≡ true
divides_from_dvd d [] h = refl
divides_from_dvd d (p ∷ ps) h =
    let g = IsGcd-gcd (unsigned_abs p.times) (divisor ps) in
    and_from _ _
    ((Decides-int_eq (int_rem p.times (pos d)) (pos 0)).1 (rem-zero p.times d (dvd_trans d h g.0)))
    (divides_from_dvd d ps (dvd_trans d h g.1))

-- it divides each coefficient
pub divides-divisor : (ps : List RowPart) → divides (pos (divisor ps)) ps ≡ true
divides-divisor ps = divides_from_dvd (divisor ps) ps (dvd_refl (divisor ps))

-- and each number that does divides it
pub dvd-divisor : (d : ℕ) (ps : List RowPart) → divides (pos d) ps ≡ true → d ∣ divisor ps
dvd-divisor d [] h = dvd-zero d
dvd-divisor d (p ∷ ps) h =
    let t = and_parts (int_eq (int_rem p.times (pos d)) (pos 0)) (divides (pos d) ps) h in
    (IsGcd-gcd (unsigned_abs p.times) (divisor ps)).2 d
    (dvd_from_rem p.times d ((Decides-int_eq (int_rem p.times (pos d)) (pos 0)).0 t.0))
    (dvd-divisor d ps t.1)

abs_positive : (z : ℤ) → z ≢ pos 0 → 0 < unsigned_abs z
abs_positive (pos zero) n = absurd (n refl)
abs_positive (pos (suc a)) n = omega arith
abs_positive (negsuc a) n = omega arith

pub divisor_positive : (low : ℕ) (p : RowPart) (ps : List RowPart) → RisesFrom low (p ∷ ps) → 0 < divisor (p ∷ ps)
divisor_positive low p ps r = gcd_positive (unsigned_abs p.times) (divisor ps) (abs_positive p.times r.1)

-- ---- a cut by 1, and tightening
int_div-one : (z : ℤ) → int_div z (pos 1) ≡ z
int_div-one z = omega (arith, ints)

parts-cut_one : (ps : List RowPart) → cut_parts (pos 1) ps ≡ ps
parts-cut_one [] = refl
parts-cut_one (p ∷ ps) =
    ap₂ ◌∷◌ (ap (λ (z : ℤ). let r : RowPart = record { var = p.var; times = z } in r) (int_div-one p.times)) (parts-cut_one ps)

pub cut-one : (row : Inequality) → cut row (pos 1) ≡ row
cut-one row = ap₂ (λ (ps : List RowPart) (b : ℤ). let r : Inequality = record { parts = ps; bound = b } in r) (parts-cut_one row.parts) (floor-one row.bound)

-- a row without parts stays as it is; any other is cut by a number that is at least 1 and divides its coefficients
pub by_tightened : (P : Inequality → Type 0) (ps : List RowPart) (b : ℤ) → IsCanonical ps → (ps ≡ [] → P (record { parts = ps; bound = b })) → ((g : ℕ) → 0 < g → divides (pos g) ps ≡ true → P (cut (record { parts = ps; bound = b }) (pos g))) → P (tightened (record { parts = ps; bound = b }))
by_tightened P [] b r none some = none refl
by_tightened P (p ∷ ps) b r none some = some (divisor (p ∷ ps)) (divisor_positive 0 p ps r) (divides-divisor (p ∷ ps))

pub Holds-tightened : (x : ℕ → ℤ) (row : Inequality) → IsCanonical row.parts → Holds x row ↔ Holds x (tightened row)
Holds-tightened x row r =
    by_tightened (λ t. Holds x row ↔ Holds x t) row.parts row.bound r
    (λ _. ((λ h. h), (λ h. h)))
    (λ g h d. Holds-cut x row (pos g) (omega (arith, ints)) d)

pub IsCanonical-tightened : (row : Inequality) → IsCanonical row.parts → IsCanonical (tightened row).parts
IsCanonical-tightened row r =
    by_tightened (λ t. IsCanonical t.parts) row.parts row.bound r (λ _. r) (λ g h d. RisesFrom-cut 0 (pos g) row.parts d r)

pub is_within-tightened : (row : Inequality) → IsCanonical row.parts → is_within row ≡ true → is_within (tightened row) ≡ true
is_within-tightened row r w =
    by_tightened (λ t. is_within t ≡ true) row.parts row.bound r (λ _. w) (λ g h d. is_within-cut row (pos g) (omega (arith, ints)) w)

-- where the coefficients have no common divisor, or there are none, nothing changes
by_small_divisor : (ps : List RowPart) (b : ℤ) → IsCanonical ps → divisor ps ≤ 1 → tightened (record { parts = ps; bound = b }) ≡ record { parts = ps; bound = b }
by_small_divisor [] b r h = refl
by_small_divisor (p ∷ ps) b r h =
    let g : divisor (p ∷ ps) ≡ 1 = omega (arith, divisor_positive 0 p ps r) in
    ap (λ (n : ℕ). cut (record { parts = p ∷ ps; bound = b }) (pos n)) g ∙ cut-one (record { parts = p ∷ ps; bound = b })

pub tightened-same : (row : Inequality) → IsCanonical row.parts → divisor row.parts ≤ 1 → tightened row ≡ row
tightened-same row r h = by_small_divisor row.parts row.bound r h

pub tightened-cut : (row : Inequality) → 1 < divisor row.parts → tightened row ≡ cut row (pos (divisor row.parts))
tightened-cut row h = by_divisor row.parts row.bound h
  where
    by_divisor : (ps : List RowPart) (b : ℤ) → 1 < divisor ps → tightened (record { parts = ps; bound = b }) ≡ cut (record { parts = ps; bound = b }) (pos (divisor ps))
    by_divisor [] b l = absurd (omega arith)
    by_divisor (p ∷ ps) b l = refl

-- the divisor of a row within the limit is within it
pub divisor_small : (low : ℕ) (ps : List RowPart) → RisesFrom low ps → are_small ps ≡ true → divisor ps ≤ 2 ^ 60
divisor_small low [] r h = omega arith
divisor_small low (p ∷ ps) r h =
    let t = and_parts (is_small p.times) (are_small ps) h in
    omega (arith, gcd_le (unsigned_abs p.times) (divisor ps) (abs_positive p.times r.1), leb-true (unsigned_abs p.times) (2 ^ 60) t.0)

-- ---- the divisor, taken from the left
pub divisor_more : (ps : List RowPart) (i : ℕ) (d : RowPart) (c all : ℕ) → i < length ps → gcd c (divisor (drop i ps)) ≡ all → gcd (gcd c (unsigned_abs (get_or ps i d).times)) (divisor (drop (i + 1) ps)) ≡ all
divisor_more ps i d c all h e =
    gcd-assoc c (unsigned_abs (get_or ps i d).times) (divisor (drop (i + 1) ps))
    ∙ ap (λ (qs : List RowPart). gcd c (divisor qs)) (sym (drop_more ps i d h)) ∙ e

pub divisor_all : (ps : List RowPart) (i : ℕ) (c all : ℕ) → length ps ≤ i → gcd c (divisor (drop i ps)) ≡ all → c ≡ all
divisor_all ps i c all h e = sym (gcd-zero c) ∙ ap (λ (qs : List RowPart). gcd c (divisor qs)) (sym (drop_all i ps h)) ∙ e

pub divisor_one : (ps : List RowPart) (i : ℕ) (d : RowPart) (c k n all : ℕ) → i < length ps → n ≡ unsigned_abs (get_or ps i d).times → k ≡ gcd c n → k ≡ 1 → gcd c (divisor (drop i ps)) ≡ all → 1 ≡ all
divisor_one ps i d c k n all h en ek one e =
    sym (one-gcd (divisor (drop (i + 1) ps)))
    ∙ ap (λ (m : ℕ). gcd m (divisor (drop (i + 1) ps))) (sym one ∙ ek ∙ ap (gcd c) en)
    ∙ divisor_more ps i d c all h e

pub gcd_most : (a b m : ℕ) → a ≤ m → b ≤ m → gcd a b ≤ m
gcd_most zero b m h k = rw zero-gcd k
gcd_most (suc a) b m h k = omega (arith, gcd_le (suc a) b (omega arith))

-- ---- what the code compares
-- the product of the divisor and the claimed coefficient is the coefficient exactly where the divisor divides it and the claimed one is the quotient
pub claimed_quotient : (claimed part : RowPart) (by z : ℤ) → by ≢ pos 0 → z ≡ by *ℤ claimed.times → claimed.var ≡ part.var → (z ≡ part.times) ↔ ((int_rem part.times by ≡ pos 0) × (claimed ≡ record { var = part.var; times = int_div part.times by }))
claimed_quotient claimed part by z nz m v = (
  (λ e.
      let x = exact-product by claimed.times nz in
      let t : part.times ≡ by *ℤ claimed.times = sym e ∙ m in (
        ap (λ (k : ℤ). int_rem k by) t ∙ x.1,
        ap₂ (λ (n : ℕ) (k : ℤ). let r : RowPart = record { var = n; times = k } in r) v (sym (ap (λ (k : ℤ). int_div k by) t ∙ x.0)),
      )),
  (λ h. m ∙ ap (λ (r : RowPart). by *ℤ r.times) h.1 ∙ product-exact part.times by h.0),
)
