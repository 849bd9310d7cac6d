-- The coefficients of combinations and of tightened rows: a combination has no part of the variable that it cancels, and none of a variable that neither row has.
use Rattle.std.proofs.Common.{◌≡◌, ◌≢◌, ℕ, suc, ◌*◌, ◌/◌, ⊎_elim, Bool, true, false, cond, ◌||◌, eqb, List, [], ◌∷◌, ℤ, pos, negsuc, ◌+ℤ◌, ◌*ℤ◌, ◌<ℤ◌, int_lt, int_div, int_rem, unsigned_abs, ap, ap₂, sym, refl, ◌∙◌, arith}
use Rattle.std.specs.Ordering.{int_eq}
use Rattle.std.proofs.lemmas.Bool.{or_cases, and_parts, false≢true, cases_Bool}
use Rattle.std.proofs.lemmas.Bool.Decides.{Decides-int_eq}
use Rattle.std.proofs.lemmas.Int.{ints}
use Rattle.std.proofs.Math.IntN.{*ℤ-zero}
use Rattle.std.proofs.Math.Nat.{mul-div_cancel'}
use Rattle.whole_numbers.specs.Gcd.{gcd}
use Rattle.whole_numbers.proofs.Divisors.{IsGcd-gcd}
use Rattle.whole_numbers.proofs.Products.{mul-sum, mul_left_cancel}
use Rattle.whole_numbers.proofs.Truncation.{product-exact}
use Rattle.lin_rows.specs.declared.row.RowPart.{RowPart}
use Rattle.lin_rows.specs.Inequality.{Inequality, IsCanonical}
use Rattle.lin_rows.specs.Sum.{coefficient}
use Rattle.lin_rows.specs.Cut.{divides, cut_parts, tightened}
use Rattle.lin_rows.proofs.SumLaws.{coefficient-sum}
use Rattle.lin_rows.proofs.CutLaws.{by_tightened}
use Rattle.elimination.specs.Elimination.{is_lower, is_upper, has, combination}

-- ---- a row has a variable where its coefficient is not 0
pub below_zero : (z : ℤ) → int_lt z (pos 0) ≡ true → z <ℤ pos 0
below_zero z e = omega (arith, ints)

pub above_zero : (z : ℤ) → int_lt (pos 0) z ≡ true → pos 0 <ℤ z
above_zero z e = omega (arith, ints)

pub has-nonzero : (v : ℕ) (row : Inequality) → has v row ≡ true → coefficient row.parts v ≢ pos 0
has-nonzero v row h e =
    ⊎_elim (λ t. let b = below_zero (coefficient row.parts v) t in omega (arith, ints)) (λ t. let b = above_zero (coefficient row.parts v) t in omega (arith, ints))
    (or_cases (is_lower v row) (is_upper v row) h)

pub has-zero : (v : ℕ) (row : Inequality) → has v row ≡ false → coefficient row.parts v ≡ pos 0
has-zero v row h = by_tests (is_lower v row) (is_upper v row) refl refl h
  where
    by_tests : (s t : Bool) → int_lt (coefficient row.parts v) (pos 0) ≡ s → int_lt (pos 0) (coefficient row.parts v) ≡ t → (s || t) ≡ false → coefficient row.parts v ≡ pos 0
    by_tests false false e f g = omega (arith, ints)
    by_tests true t e f g = absurd (false≢true (sym g))
    by_tests false true e f g = absurd (false≢true (sym g))

pub nonzero-has : (v : ℕ) (row : Inequality) → coefficient row.parts v ≢ pos 0 → has v row ≡ true
nonzero-has v row n = ⊎_elim (λ t. t) (λ f. absurd (n (has-zero v row f))) (cases_Bool (has v row))

-- ---- combinations
-- the one number times what is left of the other is the same both ways
cross : (a b : ℕ) → (b / gcd a b) * a ≡ (a / gcd a b) * b
cross a b =
    let g = gcd a b in
    let ea = mul-div_cancel' g (IsGcd-gcd a b).0 in
    let eb = mul-div_cancel' g (IsGcd-gcd a b).1 in
    ap (λ (n : ℕ). (b / g) * n) (sym ea) ∙ regroup (b / g) g (a / g) ∙ ap (λ (n : ℕ). (a / g) * n) eb
  where
    regroup : (x y z : ℕ) → x * (y * z) ≡ z * (y * x)
    regroup x y z = omega arith

opposite : (p q m n : ℕ) (x y : ℤ) → x <ℤ pos 0 → pos 0 <ℤ y → unsigned_abs x ≡ m → unsigned_abs y ≡ n → p * m ≡ q * n → pos p *ℤ x +ℤ pos q *ℤ y ≡ pos 0
opposite p q m n (pos x) y hx hy ex ey e = absurd (omega (arith, ints))
opposite p q m n (negsuc x) (negsuc y) hx hy ex ey e = absurd (omega (arith, ints))
opposite p q m n (negsuc x) (pos y) hx hy ex ey e =
    let l : p * suc x ≡ p * m = ap (λ (k : ℕ). p * k) ex in
    let r : q * y ≡ q * n = ap (λ (k : ℕ). q * k) ey in
    omega (arith, ints)

pub combination-cancels : (v : ℕ) (lower upper : Inequality) → is_lower v lower ≡ true → is_upper v upper ≡ true → coefficient (combination v lower upper).parts v ≡ pos 0
combination-cancels v lower upper hl hu =
    let x = coefficient lower.parts v in
    let y = coefficient upper.parts v in
    let a = unsigned_abs x in
    let b = unsigned_abs y in
    coefficient-sum lower.parts (pos (b / gcd a b)) upper.parts (pos (a / gcd a b)) v
    ∙ opposite (b / gcd a b) (a / gcd a b) a b x y (below_zero x hl) (above_zero y hu) refl refl (cross a b)

pub combination-brings_none : (v w : ℕ) (lower upper : Inequality) → has w lower ≡ false → has w upper ≡ false → coefficient (combination v lower upper).parts w ≡ pos 0
combination-brings_none v w lower upper hl hu =
    let a = unsigned_abs (coefficient lower.parts v) in
    let b = unsigned_abs (coefficient upper.parts v) in
    coefficient-sum lower.parts (pos (b / gcd a b)) upper.parts (pos (a / gcd a b)) w
    ∙ ap₂ (λ (x y : ℤ). pos (b / gcd a b) *ℤ x +ℤ pos (a / gcd a b) *ℤ y) (has-zero w lower hl) (has-zero w upper hu)
    ∙ ap₂ ◌+ℤ◌ (*ℤ-zero (pos (b / gcd a b))) (*ℤ-zero (pos (a / gcd a b)))

-- ---- tightened rows
coefficient-cut : (g : ℤ) (ps : List RowPart) (w : ℕ) → divides g ps ≡ true → g *ℤ coefficient (cut_parts g ps) w ≡ coefficient ps w
coefficient-cut g [] w h = *ℤ-zero g
coefficient-cut g (p ∷ ps) w h =
    let t = and_parts (int_eq (int_rem p.times g) (pos 0)) (divides g ps) h in
    by_var (eqb p.var w) (product-exact p.times g ((Decides-int_eq (int_rem p.times g) (pos 0)).0 t.0)) (coefficient-cut g ps w t.1)
  where
    by_var : (b : Bool) → g *ℤ int_div p.times g ≡ p.times → g *ℤ coefficient (cut_parts g ps) w ≡ coefficient ps w → g *ℤ cond b (int_div p.times g +ℤ coefficient (cut_parts g ps) w) (coefficient (cut_parts g ps) w) ≡ cond b (p.times +ℤ coefficient ps w) (coefficient ps w)
    by_var true e f = mul-sum g (int_div p.times g) (coefficient (cut_parts g ps) w) ∙ ap₂ ◌+ℤ◌ e f
    by_var false e f = f

pub tightened-zero : (row : Inequality) (w : ℕ) → IsCanonical row.parts → coefficient row.parts w ≡ pos 0 → coefficient (tightened row).parts w ≡ pos 0
tightened-zero row w c e =
    by_tightened (λ t. coefficient t.parts w ≡ pos 0) row.parts row.bound c (λ _. e)
    (λ g h d. mul_left_cancel (pos g) _ _ (λ z. omega (arith, ints)) (coefficient-cut (pos g) row.parts w d ∙ e ∙ sym (*ℤ-zero (pos g))))
