-- What lists have as members.
use Rattle.std.proofs.Common.{◌≡◌, ℕ, zero, suc, ◌+◌, ◌<◌, ◌≤◌, Bool, true, false, cond, List, [], ◌∷◌, ◌++◌, refl, sym, ap, ◌∙◌, subst, arith}
use Rattle.std.specs.Prelude.{nat_eq}
use Rattle.std.specs.List.{AllByRecursion, flat_map, range_with_len}
use Rattle.std.specs.Set.{is_member}
use Rattle.std.proofs.lemmas.Bool.{false≢true, or_left, or_right, or_from, eqb-true, eqb-false}
use Rattle.std.proofs.lemmas.Cmp.{nat_eq_equiv}

pub is_false : (b : Bool) → (b ≡ true → ⊥) → b ≡ false
is_false true h = absurd (h refl)
is_false false h = refl

module _ {K : Type 0} (same : K → K → Bool) where
  pub member_right : (xs ys : List K) (q : K) → is_member same ys q ≡ true → is_member same (xs ++ ys) q ≡ true
  member_right [] ys q h = h
  member_right (x ∷ xs) ys q h = or_right (same q x) (is_member same (xs ++ ys) q) (member_right xs ys q h)

  -- what no member of the list meets, none does that is met
  pub not_member : (P : K → Type 0) (same-true : (x y : K) → same x y ≡ true → x ≡ y) (xs : List K) → AllByRecursion (λ x. P x → ⊥) xs → (q : K) → P q
      → is_member same xs q ≡ false
  not_member P same-true [] none q h = refl
  not_member P same-true (x ∷ xs) none q h =
      or_from (same q x) (is_member same xs q) (is_false (same q x) (λ is. none.0 (subst P (same-true q x is) h)))
      (not_member P same-true xs none.1 q h)

-- ---- the numbers of a range that pass a test

module _ (test : ℕ → Bool) where
  abbrev pub passing : ℕ → ℕ → List ℕ
  passing first count = flat_map (λ g. cond (test g) (g ∷ []) []) (range_with_len first count)

  in_front : (b : Bool) (first : ℕ) (rest : List ℕ) → b ≡ true → is_member nat_eq (cond b (first ∷ []) [] ++ rest) first ≡ true
  in_front true first rest h = or_left (nat_eq first first) (is_member nat_eq rest first) (nat_eq_equiv.refl first)
  in_front false first rest h = absurd (false≢true h)

  -- the first of the range, or one behind it
  step : (b : Bool) (first count n : ℕ) → nat_eq n first ≡ b → first ≤ n → test n ≡ true
      → (first + 1 ≤ n → is_member nat_eq (passing (first + 1) count) n ≡ true) → is_member nat_eq (passing first (suc count)) n ≡ true
  step true first count n e le h later =
      let is : first ≡ n = sym (eqb-true n first e) in
      subst (λ m. is_member nat_eq (cond (test first) (first ∷ []) [] ++ passing (first + 1) count) m ≡ true) is
      (in_front (test first) first (passing (first + 1) count) (ap test is ∙ h))
  step false first count n e le h later =
      let other = eqb-false n first e in
      member_right nat_eq (cond (test first) (first ∷ []) []) (passing (first + 1) count) n (later (grind (arith, other)))

  pub is_passing : (first count n : ℕ) → first ≤ n → n < first + count → test n ≡ true → is_member nat_eq (passing first count) n ≡ true
  is_passing first zero n le lt h = absurd (omega arith)
  is_passing first (suc count) n le lt h =
      step (nat_eq n first) first count n refl le h (λ next. is_passing (first + 1) count n next (omega arith) h)
