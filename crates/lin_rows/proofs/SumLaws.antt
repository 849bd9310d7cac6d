-- What a sum of rows means: its coefficients, its sum at values of the variables, and that canonical parts are told by their coefficients.
use Rattle.std.proofs.Common.{◌≡◌, ◌≢◌, ◌&&◌, int_lt, ℕ, suc, ◌<◌, ⊎_elim, Bool, true, false, cond, eqb, List, [], ◌∷◌, ◌++◌, ℤ, pos, ◌+ℤ◌, ◌*ℤ◌, ◌≤ℤ◌, ap, ap₂, sym, refl, ◌∙◌, subst, arith, eq-eqb, ne_eqb}
use Rattle.std.proofs.lemmas.Bool.{cases_order, cases_eq, false≢true}
use Rattle.std.proofs.lemmas.Int.{ints}
use Rattle.std.proofs.Math.IntN.{*ℤ-zero, zero-*ℤ}
use Rattle.whole_numbers.proofs.Products.{sum-mul, mul-mul, mul-sum, mul_le}
use Rattle.lin_rows.specs.declared.row.RowPart.{RowPart}
use Rattle.lin_rows.specs.Inequality.{Inequality, RisesFrom, IsCanonical, sum_at, Holds, is_empty, is_contradiction}
use Rattle.lin_rows.specs.Sum.{coefficient, with_part, plus, collected, multiplied, sum_of_parts, combined}
use Rattle.lin_rows.proofs.SumLemmas.{AllFrom, RisesFrom-collected, with_part-zero, with_part-nonzero, plus_same, plus_before, plus_behind, cases_zero}

-- ---- any function of parts that adds up
-- A function f of a list of parts adds up where it is 0 at none, each part has its own share, a share of a part of 0 times is 0, and the shares of two parts of one variable are that of their sum.
record AddsUp (f : List RowPart → ℤ) (share : RowPart → ℤ) : Type 0 where
  none : f [] ≡ pos 0
  more : (p : RowPart) (ps : List RowPart) → f (p ∷ ps) ≡ share p +ℤ f ps
  zero_share : (p : RowPart) → p.times ≡ pos 0 → share p ≡ pos 0
  joined : (p q : RowPart) → p.var ≡ q.var → share (record { var = p.var; times = p.times +ℤ q.times }) ≡ share p +ℤ share q

module _ (f : List RowPart → ℤ) (share : RowPart → ℤ) (adds : AddsUp f share) where
  at_with_part : (p : RowPart) (ps : List RowPart) → f (with_part p ps) ≡ share p +ℤ f ps
  at_with_part p ps = ⊎_elim
      (λ e. ap f (with_part-zero p ps e) ∙ (let z = adds.zero_share p e in omega (arith, ints)))
      (λ n. ap f (with_part-nonzero p ps n) ∙ adds.more p ps) (cases_zero p.times)

  at_plus : (p : RowPart) (ps : List RowPart) → f (plus p ps) ≡ share p +ℤ f ps
  at_plus p [] = at_with_part p []
  at_plus p (q ∷ qs) =
      let rest = at_plus p qs in
      let more = adds.more q qs in
      ⊎_elim
      (λ e. ap f (plus_same p q qs e) ∙ at_with_part (record { var = p.var; times = p.times +ℤ q.times }) qs ∙ (let j = adds.joined p q e in omega (arith, ints)))
      (⊎_elim
      (λ l. ap f (plus_before p q qs l) ∙ at_with_part p (q ∷ qs))
      (λ l. ap f (plus_behind p q qs l) ∙ (let m = adds.more q (plus p qs) in omega (arith, ints))))
      (cases_order p.var q.var)

  at_collected : (ps : List RowPart) → f (collected ps) ≡ f ps
  at_collected [] = refl
  at_collected (p ∷ ps) = let e = at_plus p (collected ps) in let r = at_collected ps in let m = adds.more p ps in omega (arith, ints)

  at_append : (ps qs : List RowPart) → f (ps ++ qs) ≡ f ps +ℤ f qs
  at_append [] qs = let n = adds.none in omega (arith, ints)
  at_append (p ∷ ps) qs = let m = adds.more p (ps ++ qs) in let r = at_append ps qs in let n = adds.more p ps in omega (arith, ints)

-- ---- the sum at values of the variables
sum_at_adds : (x : ℕ → ℤ) → AddsUp (sum_at x) (λ p. p.times *ℤ x p.var)
sum_at_adds x = record {
  none = refl;
  more = λ p ps. refl;
  zero_share = λ p e. ap (λ (z : ℤ). z *ℤ x p.var) e ∙ zero-*ℤ (x p.var);
  joined = λ p q e. sum-mul p.times q.times (x p.var) ∙ ap (λ (v : ℕ). p.times *ℤ x p.var +ℤ q.times *ℤ x v) e;
}

sum_at-multiplied : (x : ℕ → ℤ) (k : ℤ) (ps : List RowPart) → sum_at x (multiplied k ps) ≡ k *ℤ sum_at x ps
sum_at-multiplied x k [] = sym (*ℤ-zero k)
sum_at-multiplied x k (p ∷ ps) =
    ap₂ ◌+ℤ◌ (mul-mul k p.times (x p.var)) (sum_at-multiplied x k ps) ∙ sym (mul-sum k (p.times *ℤ x p.var) (sum_at x ps))

pub sum_at-sum : (x : ℕ → ℤ) (left : List RowPart) (p : ℤ) (right : List RowPart) (q : ℤ) → sum_at x (sum_of_parts left p right q) ≡ p *ℤ sum_at x left +ℤ q *ℤ sum_at x right
sum_at-sum x left p right q =
    at_collected (sum_at x) (λ p. p.times *ℤ x p.var) (sum_at_adds x) (multiplied p left ++ multiplied q right)
    ∙ at_append (sum_at x) (λ p. p.times *ℤ x p.var) (sum_at_adds x) (multiplied p left) (multiplied q right)
    ∙ ap₂ ◌+ℤ◌ (sum_at-multiplied x p left) (sum_at-multiplied x q right)

-- what holds of two rows holds of their sum
pub Holds-combined : (x : ℕ → ℤ) (a : Inequality) (p : ℤ) (b : Inequality) (q : ℤ) → pos 0 ≤ℤ p → pos 0 ≤ℤ q → Holds x a → Holds x b → Holds x (combined a p b q)
Holds-combined x a p b q hp hq ha hb =
    let e = sum_at-sum x a.parts p b.parts q in
    let l = mul_le p (sum_at x a.parts) a.bound hp ha in
    let r = mul_le q (sum_at x b.parts) b.bound hq hb in
    omega (arith, ints)

-- ---- the coefficients
abbrev part_at : ℕ → RowPart → ℤ
part_at v p = cond (eqb p.var v) p.times (pos 0)

coefficient_adds : (v : ℕ) → AddsUp (λ ps. coefficient ps v) (part_at v)
coefficient_adds v = record {
  none = refl;
  more = λ p ps. more (eqb p.var v) p.times (coefficient ps v);
  zero_share = λ p e. zero (eqb p.var v) p.times e;
  joined = λ p q e. joined p q e;
}
  where
    more : (b : Bool) (t c : ℤ) → cond b (t +ℤ c) c ≡ cond b t (pos 0) +ℤ c
    more true t c = refl
    more false t c = omega (arith, ints)

    zero : (b : Bool) (t : ℤ) → t ≡ pos 0 → cond b t (pos 0) ≡ pos 0
    zero true t e = e
    zero false t e = refl

    both : (b : Bool) (t u : ℤ) → cond b (t +ℤ u) (pos 0) ≡ cond b t (pos 0) +ℤ cond b u (pos 0)
    both true t u = refl
    both false t u = refl

    joined : (p q : RowPart) → p.var ≡ q.var → part_at v (record { var = p.var; times = p.times +ℤ q.times }) ≡ part_at v p +ℤ part_at v q
    joined p q e =
        both (eqb p.var v) p.times q.times ∙ ap (λ (n : ℕ). part_at v p +ℤ cond (eqb n v) q.times (pos 0)) e

coefficient-multiplied : (k : ℤ) (ps : List RowPart) (v : ℕ) → coefficient (multiplied k ps) v ≡ k *ℤ coefficient ps v
coefficient-multiplied k [] v = sym (*ℤ-zero k)
coefficient-multiplied k (p ∷ ps) v =
    ap (λ (c : ℤ). cond (eqb p.var v) (k *ℤ p.times +ℤ c) c) (coefficient-multiplied k ps v) ∙ both (eqb p.var v) p.times (coefficient ps v)
  where
    both : (b : Bool) (t c : ℤ) → cond b (k *ℤ t +ℤ k *ℤ c) (k *ℤ c) ≡ k *ℤ cond b (t +ℤ c) c
    both true t c = sym (mul-sum k t c)
    both false t c = refl

-- each coefficient of a sum
pub coefficient-sum : (left : List RowPart) (p : ℤ) (right : List RowPart) (q : ℤ) (v : ℕ) → coefficient (sum_of_parts left p right q) v ≡ p *ℤ coefficient left v +ℤ q *ℤ coefficient right v
coefficient-sum left p right q v =
    at_collected (λ ps. coefficient ps v) (part_at v) (coefficient_adds v) (multiplied p left ++ multiplied q right)
    ∙ at_append (λ ps. coefficient ps v) (part_at v) (coefficient_adds v) (multiplied p left) (multiplied q right)
    ∙ ap₂ ◌+ℤ◌ (coefficient-multiplied p left v) (coefficient-multiplied q right v)

-- ---- canonical parts are told by their coefficients
pub coefficient_below : (v low : ℕ) (ps : List RowPart) → v < low → RisesFrom low ps → coefficient ps v ≡ pos 0
coefficient_below v low [] h r = refl
coefficient_below v low (p ∷ ps) h r =
    rw (ne_eqb p.var v (λ e. omega (arith, r.0))) (coefficient_below v (suc p.var) ps (omega (arith, r.0)) r.2)

pub coefficient_first : (low : ℕ) (p : RowPart) (ps : List RowPart) → RisesFrom low (p ∷ ps) → coefficient (p ∷ ps) p.var ≡ p.times
coefficient_first low p ps r =
    let z = coefficient_below p.var (suc p.var) ps (omega arith) r.2 in rw (eq-eqb p.var p.var refl) (omega (arith, ints))

pub coefficient_rest : (low : ℕ) (p : RowPart) (ps : List RowPart) (v : ℕ) → RisesFrom low (p ∷ ps) → v ≢ p.var → coefficient (p ∷ ps) v ≡ coefficient ps v
coefficient_rest low p ps v r n = rw (ne_eqb p.var v (λ e. n (sym e))) refl

clash : (low : ℕ) (p : RowPart) (ps qs : List RowPart) → RisesFrom low (p ∷ ps) → RisesFrom (suc p.var) qs → ((v : ℕ) → coefficient (p ∷ ps) v ≡ coefficient qs v) → ⊥
clash low p ps qs r h same =
    r.1 (sym (coefficient_first low p ps r) ∙ same p.var ∙ coefficient_below p.var (suc p.var) qs (omega arith) h)

same_part : (p q : RowPart) → p.var ≡ q.var → p.times ≡ q.times → p ≡ q
same_part p q e t = ap₂ (λ (v : ℕ) (z : ℤ). let r : RowPart = record { var = v; times = z } in r) e t

same_rest : (low : ℕ) (p q : RowPart) (ps qs : List RowPart) → p.var ≡ q.var → RisesFrom low (p ∷ ps) → RisesFrom low (q ∷ qs) → ((v : ℕ) → coefficient (p ∷ ps) v ≡ coefficient (q ∷ qs) v) → (v : ℕ) → coefficient ps v ≡ coefficient qs v
same_rest low p q ps qs e r h same v = ⊎_elim
    (λ z. coefficient_below v (suc p.var) ps (omega arith) r.2 ∙ sym (coefficient_below v (suc q.var) qs (omega arith) h.2))
    (λ n. sym (coefficient_rest low p ps v r n) ∙ same v ∙ coefficient_rest low q qs v h (λ z. n (z ∙ sym e)))
    (cases_eq v p.var)

pub canonical_unique : (low : ℕ) (ps qs : List RowPart) → RisesFrom low ps → RisesFrom low qs → ((v : ℕ) → coefficient ps v ≡ coefficient qs v) → ps ≡ qs
canonical_unique low [] [] r h same = refl
canonical_unique low [] (q ∷ qs) r h same = absurd (clash low q qs [] h tt (λ v. sym (same v)))
canonical_unique low (p ∷ ps) [] r h same = absurd (clash low p ps [] r tt same)
canonical_unique low (p ∷ ps) (q ∷ qs) r h same =
    ⊎_elim
    (λ e. ap₂ ◌∷◌
    (same_part p q e (sym (coefficient_first low p ps r) ∙ same p.var ∙ ap (coefficient (q ∷ qs)) e ∙ coefficient_first low q qs h))
    (canonical_unique (suc p.var) ps qs r.2 (subst (λ (v : ℕ). RisesFrom (suc v) qs) (sym e) h.2) (same_rest low p q ps qs e r h same)))
    (⊎_elim
    (λ l. absurd (clash low p ps (q ∷ qs) r (l, h.1, h.2) same))
    (λ l. absurd (clash low q qs (p ∷ ps) h (l, r.1, r.2) (λ v. sym (same v)))))
    (cases_order p.var q.var)

-- ---- sums stay canonical, whatever the two lists are
AllFrom_zero : (ps : List RowPart) → AllFrom 0 ps
AllFrom_zero [] = tt
AllFrom_zero (p ∷ ps) = (omega arith, AllFrom_zero ps)

pub IsCanonical-combined : (a : Inequality) (p : ℤ) (b : Inequality) (q : ℤ) → IsCanonical (combined a p b q).parts
IsCanonical-combined a p b q = RisesFrom-collected 0 (multiplied p a.parts ++ multiplied q b.parts) (AllFrom_zero _)

-- ---- contradictions
pub contradiction_fails : (x : ℕ → ℤ) (row : Inequality) → is_contradiction row ≡ true → Holds x row → ⊥
contradiction_fails x row c h = at_parts row.parts row.bound c h
  where
    at_parts : (ps : List RowPart) (b : ℤ) → (is_empty ps && int_lt b (pos 0)) ≡ true → sum_at x ps ≤ℤ b → ⊥
    at_parts [] b t l = omega (arith, ints)
    at_parts (p ∷ ps) b t l = false≢true t
