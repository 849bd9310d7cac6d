-- Numbers within the limit, and what the code's products of them give.
use Rattle.std.proofs.Common.{◌≡◌, ◌≢◌, ◌↔◌, ◌≤ℤ◌, int_le, IsTrue, eqb, sym, List, ℕ, ◌^◌, ◌<◌, ◌≤◌, true, ℤ, pos, ◌+ℤ◌, ◌*ℤ◌, unsigned_abs, FitsSigned, to_z, of_z, ap, ap₂, ◌∙◌, arith}
use Rattle.std.specs.Int.{w128}
use Rattle.std.proofs.lemmas.Bool.{and_parts, leb-true, eqb-true, eq-eqb}
use Rattle.std.proofs.lemmas.Int.{ints, to_z-of_z}
use Rattle.whole_numbers.proofs.Products.{abs_product}
use Rattle.lin_rows.specs.declared.row.RowPart.{RowPart}
use Rattle.lin_rows.specs.Inequality.{is_small}
use Rattle.lin_rows.specs.Sum.{sum_of_parts, is_multiplier}

pub small-true : (z : ℤ) → is_small z ≡ true → unsigned_abs z ≤ 2 ^ 60
small-true z h = leb-true (unsigned_abs z) (2 ^ 60) h

pub small_product : (a b : ℤ) → is_small a ≡ true → is_small b ≡ true → unsigned_abs (a *ℤ b) ≤ 2 ^ 120
small_product a b h p = abs_product a b (2 ^ 60) (2 ^ 60) (small-true a h) (small-true b p)

pub fits_below : (z : ℤ) (m : ℕ) → unsigned_abs z ≤ m → m < 2 ^ 127 → FitsSigned w128 z
fits_below z m h p = omega (arith, ints)

pub fits_product : (a b : ℤ) → is_small a ≡ true → is_small b ≡ true → FitsSigned w128 (a *ℤ b)
fits_product a b h p = fits_below (a *ℤ b) (2 ^ 120) (small_product a b h p) (omega arith)

-- what the code gives for `a * b`
pub product_is : (a b : ℤ) → FitsSigned w128 a → FitsSigned w128 b → FitsSigned w128 (a *ℤ b) → to_z w128 (of_z w128 (to_z w128 (of_z w128 a) *ℤ to_z w128 (of_z w128 b))) ≡ a *ℤ b
product_is a b fa fb fit = ap₂ (λ (x y : ℤ). to_z w128 (of_z w128 (x *ℤ y))) (to_z-of_z w128 a fa) (to_z-of_z w128 b fb) ∙ to_z-of_z w128 (a *ℤ b) fit

-- what the code gives for `a + b`
pub sum_is : (a b : ℤ) → FitsSigned w128 a → FitsSigned w128 b → FitsSigned w128 (a +ℤ b) → to_z w128 (of_z w128 (to_z w128 (of_z w128 a) +ℤ to_z w128 (of_z w128 b))) ≡ a +ℤ b
sum_is a b fa fb fit = ap₂ (λ (x y : ℤ). to_z w128 (of_z w128 (x +ℤ y))) (to_z-of_z w128 a fa) (to_z-of_z w128 b fb) ∙ to_z-of_z w128 (a +ℤ b) fit

pub sum_of_small : (a b x y : ℤ) → unsigned_abs a ≤ 2 ^ 120 → unsigned_abs b ≤ 2 ^ 120 → a ≡ x → b ≡ y → to_z w128 (of_z w128 (to_z w128 (of_z w128 a) +ℤ to_z w128 (of_z w128 b))) ≡ x +ℤ y
sum_of_small a b x y h p e f =
    sum_is a b (fits_below a (2 ^ 120) h (omega arith)) (fits_below b (2 ^ 120) p (omega arith)) (omega (arith, ints)) ∙ ap₂ ◌+ℤ◌ e f

pub small_fits : (z : ℤ) → is_small z ≡ true → FitsSigned w128 z
small_fits z h = fits_below z (2 ^ 60) (small-true z h) (omega arith)

-- a sum by numbers as the code passes them on
pub sum_passed : (left right : List RowPart) (p q : ℤ) → FitsSigned w128 p → FitsSigned w128 q → sum_of_parts left (to_z w128 (of_z w128 p)) right (to_z w128 (of_z w128 q)) ≡ sum_of_parts left p right q
sum_passed left right p q fp fq = ap₂ (λ (x y : ℤ). sum_of_parts left x right y) (to_z-of_z w128 p fp) (to_z-of_z w128 q fq)

pub not_zero : (z : ℤ) → (of_z w128 z ≡ 0 → ⊥) → z ≢ pos 0
not_zero z n e = n (ap (of_z w128) e)

-- `a == b`
pub equal_bits : (a b : ℤ) → FitsSigned w128 a → FitsSigned w128 b → IsTrue (eqb (of_z w128 a) (of_z w128 b)) ↔ (a ≡ b)
equal_bits a b fa fb = (
  (λ t. sym (to_z-of_z w128 a fa) ∙ ap (to_z w128) (eqb-true (of_z w128 a) (of_z w128 b) t) ∙ to_z-of_z w128 b fb),
  (λ e. eq-eqb (of_z w128 a) (of_z w128 b) (ap (of_z w128) e)),
)

pub multiplier_bounds : (k : ℤ) → is_multiplier k ≡ true → (pos 1 ≤ℤ k) × (k ≤ℤ pos (2 ^ 60))
multiplier_bounds k h = let t = and_parts (int_le (pos 1) k) (int_le k (pos (2 ^ 60))) h in (omega (arith, ints, t.0), omega (arith, ints, t.1))

pub multiplier_nonzero : (k : ℤ) → is_multiplier k ≡ true → k ≢ pos 0
multiplier_nonzero k h e = let b = multiplier_bounds k h in omega (arith, ints)
