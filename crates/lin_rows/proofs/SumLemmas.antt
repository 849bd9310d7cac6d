-- Sums of rows: what `plus` and `collected` give, and how a merge of two rising lists goes on part by part.
use Rattle.std.proofs.Common.{◌≡◌, ◌≢◌, ℕ, zero, suc, ◌<◌, ◌≤◌, ◌⊎◌, inl, inr, ⊎_elim, Bool, true, false, List, [], ◌∷◌, ◌++◌, ℤ, pos, negsuc, ◌+ℤ◌, ◌*ℤ◌, ap, sym, refl, ◌∙◌, subst, arith, lt-ltb, le-ltb, eq-eqb, ne_eqb}
use Rattle.std.proofs.lemmas.Bool.{cases_order, true≢false}
use Rattle.std.proofs.lemmas.Bool.Decides.{Decides-int_eq}
use Rattle.std.proofs.lemmas.Int.{ints}
use Rattle.std.specs.Ordering.{int_eq}
use Rattle.whole_numbers.proofs.Products.{nonzero_product}
use Rattle.lin_rows.specs.declared.row.RowPart.{RowPart}
use Rattle.lin_rows.specs.Inequality.{RisesFrom}
use Rattle.lin_rows.specs.Sum.{with_part, plus, collected, multiplied, sum_of_parts}

-- ---- tests on whole numbers
pub is_zero-true : (z : ℤ) → z ≡ pos 0 → int_eq z (pos 0) ≡ true
is_zero-true z e = (Decides-int_eq z (pos 0)).1 e

pub is_zero-false : (z : ℤ) → z ≢ pos 0 → int_eq z (pos 0) ≡ false
is_zero-false z n = go (int_eq z (pos 0)) refl
  where
    go : (b : Bool) → int_eq z (pos 0) ≡ b → b ≡ false
    go true e = absurd (n ((Decides-int_eq z (pos 0)).0 e))
    go false e = refl

-- ---- with_part
pub with_part-zero : (p : RowPart) (ps : List RowPart) → p.times ≡ pos 0 → with_part p ps ≡ ps
with_part-zero p ps e = rw (is_zero-true p.times e)

pub with_part-nonzero : (p : RowPart) (ps : List RowPart) → p.times ≢ pos 0 → with_part p ps ≡ p ∷ ps
with_part-nonzero p ps n = rw (is_zero-false p.times n)

-- ---- plus
pub plus_front : (p : RowPart) (ps : List RowPart) → RisesFrom (suc p.var) ps → plus p ps ≡ with_part p ps
plus_front p [] h = refl
plus_front p (q ∷ qs) h = rw (lt-ltb p.var q.var h.0)

pub plus_same : (p q : RowPart) (ps : List RowPart) → p.var ≡ q.var → plus p (q ∷ ps) ≡ with_part (record { var = p.var; times = p.times +ℤ q.times }) ps
plus_same p q ps e = rw (le-ltb p.var q.var (omega arith), eq-eqb p.var q.var e)

pub plus_before : (p q : RowPart) (ps : List RowPart) → p.var < q.var → plus p (q ∷ ps) ≡ with_part p (q ∷ ps)
plus_before p q ps h = rw (lt-ltb p.var q.var h)

pub plus_behind : (p q : RowPart) (ps : List RowPart) → q.var < p.var → plus p (q ∷ ps) ≡ q ∷ plus p ps
plus_behind p q ps h = rw (le-ltb p.var q.var (omega arith), ne_eqb p.var q.var (λ e. omega arith))

-- ---- order
pub RisesFrom-weaker : (m n : ℕ) (ps : List RowPart) → m ≤ n → RisesFrom n ps → RisesFrom m ps
RisesFrom-weaker m n [] h r = tt
RisesFrom-weaker m n (p ∷ ps) h r = (omega (arith, r.0), r.1, r.2)

-- all variables are at least low
abbrev pub AllFrom : ℕ → List RowPart → Type 0
AllFrom low [] = Unit {0}
AllFrom low (p ∷ ps) = (low ≤ p.var) × AllFrom low ps

AllFrom-weaker : (m n : ℕ) (ps : List RowPart) → m ≤ n → AllFrom n ps → AllFrom m ps
AllFrom-weaker m n [] h r = tt
AllFrom-weaker m n (p ∷ ps) h r = (omega (arith, r.0), AllFrom-weaker m n ps h r.1)

pub AllFrom-rises : (low : ℕ) (ps : List RowPart) → RisesFrom low ps → AllFrom low ps
AllFrom-rises low [] r = tt
AllFrom-rises low (p ∷ ps) r =
    (r.0, AllFrom-weaker low (suc p.var) ps (omega (arith, r.0)) (AllFrom-rises (suc p.var) ps r.2))

AllFrom-append : (low : ℕ) (ps qs : List RowPart) → AllFrom low ps → AllFrom low qs → AllFrom low (ps ++ qs)
AllFrom-append low [] qs h r = r
AllFrom-append low (p ∷ ps) qs h r = (h.0, AllFrom-append low ps qs h.1 r)

AllFrom-multiplied : (low : ℕ) (k : ℤ) (ps : List RowPart) → AllFrom low ps → AllFrom low (multiplied k ps)
AllFrom-multiplied low k [] h = tt
AllFrom-multiplied low k (p ∷ ps) h = (h.0, AllFrom-multiplied low k ps h.1)

RisesFrom-with_part : (low : ℕ) (p : RowPart) (ps : List RowPart) → low ≤ p.var → RisesFrom (suc p.var) ps → RisesFrom low (with_part p ps)
RisesFrom-with_part low p ps h r = go (int_eq p.times (pos 0)) refl
  where
    go : (b : Bool) → int_eq p.times (pos 0) ≡ b → RisesFrom low (with_part p ps)
    go true e = rw e (RisesFrom-weaker low (suc p.var) ps (omega arith) r)
    go false e = rw e (h, (λ z. true≢false (sym (is_zero-true p.times z) ∙ e)), r)

pub RisesFrom-plus : (low : ℕ) (p : RowPart) (ps : List RowPart) → low ≤ p.var → RisesFrom low ps → RisesFrom low (plus p ps)
RisesFrom-plus low p [] h r = RisesFrom-with_part low p [] h tt
RisesFrom-plus low p (q ∷ qs) h r =
    ⊎_elim same (⊎_elim front (behind (λ l. RisesFrom-plus (suc q.var) p qs l r.2))) (cases_order p.var q.var)
  where
    same : p.var ≡ q.var → RisesFrom low (plus p (q ∷ qs))
    same e = rw (plus_same p q qs e) (RisesFrom-with_part low (record { var = p.var; times = p.times +ℤ q.times }) qs h (RisesFrom-weaker (suc p.var) (suc q.var) qs (omega arith) r.2))

    front : p.var < q.var → RisesFrom low (plus p (q ∷ qs))
    front l = rw (lt-ltb p.var q.var l) (RisesFrom-with_part low p (q ∷ qs) h (l, r.1, r.2))

    behind : (q.var < p.var → RisesFrom (suc q.var) (plus p qs)) → q.var < p.var → RisesFrom low (plus p (q ∷ qs))
    behind rest l = rw (plus_behind p q qs l) (r.0, r.1, rest l)

pub RisesFrom-collected : (low : ℕ) (ps : List RowPart) → AllFrom low ps → RisesFrom low (collected ps)
RisesFrom-collected low [] h = tt
RisesFrom-collected low (p ∷ ps) h = RisesFrom-plus low p (collected ps) h.0 (RisesFrom-collected low ps h.1)

pub RisesFrom-sum : (low : ℕ) (left : List RowPart) (p : ℤ) (right : List RowPart) (q : ℤ) → RisesFrom low left → RisesFrom low right → RisesFrom low (sum_of_parts left p right q)
RisesFrom-sum low left p right q h r =
    RisesFrom-collected low (multiplied p left ++ multiplied q right)
    (AllFrom-append low (multiplied p left) (multiplied q right) (AllFrom-multiplied low p left (AllFrom-rises low left h)) (AllFrom-multiplied low q right (AllFrom-rises low right r)))

-- ---- a merge, part by part. The lists' heads are compared

-- p times a part
abbrev pub times_part : ℤ → RowPart → RowPart
times_part k p = record { var = p.var; times = k *ℤ p.times }

pub sum-right_front : (left : List RowPart) (p : ℤ) (y : RowPart) (ys : List RowPart) (q : ℤ) → q ≢ pos 0 → RisesFrom (suc y.var) left → RisesFrom 0 (y ∷ ys) → sum_of_parts left p (y ∷ ys) q ≡ times_part q y ∷ sum_of_parts left p ys q
sum-right_front [] p y ys q nz h r =
    plus_front (times_part q y) (sum_of_parts [] p ys q) (RisesFrom-sum (suc y.var) [] p ys q tt r.2)
    ∙ with_part-nonzero (times_part q y) (sum_of_parts [] p ys q) (nonzero_product q y.times nz r.1)
sum-right_front (x ∷ xs) p y ys q nz h r =
    ap (plus (times_part p x)) (sum-right_front xs p y ys q nz (RisesFrom-weaker (suc y.var) (suc x.var) xs (omega (arith, h.0)) h.2) r)
    ∙ plus_behind (times_part p x) (times_part q y) (sum_of_parts xs p ys q) h.0

pub sum-left_front : (x : RowPart) (xs : List RowPart) (p : ℤ) (right : List RowPart) (q : ℤ) → p ≢ pos 0 → RisesFrom 0 (x ∷ xs) → RisesFrom (suc x.var) right → sum_of_parts (x ∷ xs) p right q ≡ times_part p x ∷ sum_of_parts xs p right q
sum-left_front x xs p right q nz h r =
    plus_front (times_part p x) (sum_of_parts xs p right q) (RisesFrom-sum (suc x.var) xs p right q h.2 r)
    ∙ with_part-nonzero (times_part p x) (sum_of_parts xs p right q) (nonzero_product p x.times nz h.1)

pub sum-both_front : (x : RowPart) (xs : List RowPart) (p : ℤ) (y : RowPart) (ys : List RowPart) (q : ℤ) → q ≢ pos 0 → x.var ≡ y.var → RisesFrom 0 (x ∷ xs) → RisesFrom 0 (y ∷ ys) → sum_of_parts (x ∷ xs) p (y ∷ ys) q ≡ with_part (record { var = x.var; times = p *ℤ x.times +ℤ q *ℤ y.times }) (sum_of_parts xs p ys q)
sum-both_front x xs p y ys q nz e h r =
    ap (plus (times_part p x)) (sum-right_front xs p y ys q nz (subst (λ (v : ℕ). RisesFrom (suc v) xs) e h.2) r)
    ∙ plus_same (times_part p x) (times_part q y) (sum_of_parts xs p ys q) e

pub cases_zero : (z : ℤ) → (z ≡ pos 0) ⊎ (z ≢ pos 0)
cases_zero (pos zero) = inl refl
cases_zero (pos (suc n)) = inr (λ e. omega (arith, ints))
cases_zero (negsuc n) = inr (λ e. omega (arith, ints))
