-- Members numbered in the order in which they first stand: their numbers first stand in order too.
use Rattle.std.proofs.Common.{◌≡◌, ◌≢◌, ℕ, zero, suc, ◌+◌, ◌<◌, ◌≤◌, Bool, true, false, cond, ◌||◌, List, [], ◌∷◌, ◌++◌, map, length, Some, refl, sym, ap, ◌∙◌, subst, arith, length-append}
use Rattle.std.specs.Prelude.{nat_eq, slice_get}
use Rattle.std.specs.List.{AllByRecursion, fold, list_any, range_with_len}
use Rattle.std.specs.Set.{is_member}
use Rattle.std.proofs.lemmas.Bool.{false≢true}
use Rattle.std.proofs.lemmas.Bool.Decides.{Decides-eqb}
use Rattle.std.proofs.lemmas.List.FromFn.{map-range_with_len_more}
use Rattle.leg_rules.specs.Numbering.{with_new, number_in, firsts}
use Rattle.numbering_laws.proofs.Places.{none≢some, some_inj, In, Grows, grows_push, got_below, there_is, pushed, number_at, new_in, all_in_firsts}

-- the numbers from a start on, by names of which two are the same exactly where their numbers are
module _ {B : Type 0} (again : B → B → Bool) (g : ℕ → B) (alike : (m n : ℕ) → again (g m) (g n) ≡ nat_eq m n) where
  -- a number is among those from a start on, or it is not
  among : (start count n : ℕ) → start ≤ n → n < start + count → list_any (again (g n)) (map g (range_with_len start count)) ≡ true
  among start zero n h k = absurd (omega (arith, h, k))
  among start (suc count) n h k = by (nat_eq n start) refl (λ other. among (start + 1) count n (omega (arith, h, other)) (omega (arith, k)))
    where
      by : (b : Bool) → nat_eq n start ≡ b → (n ≢ start → list_any (again (g n)) (map g (range_with_len (start + 1) count)) ≡ true) →
          (again (g n) (g start) || list_any (again (g n)) (map g (range_with_len (start + 1) count))) ≡ true
      by true e rest = ap (λ c. c || list_any (again (g n)) (map g (range_with_len (start + 1) count))) (alike n start ∙ e)
      by false e rest =
          ap (λ c. c || list_any (again (g n)) (map g (range_with_len (start + 1) count))) (alike n start ∙ e)
          ∙ rest (λ same. false≢true (sym e ∙ (Decides-eqb n start).1 same))

  differ : (m n : ℕ) → n < m → nat_eq m n ≡ false
  differ m n l = by (nat_eq m n) refl
    where
      by : (b : Bool) → nat_eq m n ≡ b → b ≡ false
      by true e = let same : m ≡ n = (Decides-eqb m n).0 e in absurd (omega (arith, same, l))
      by false e = refl

  beyond : (start count n : ℕ) → start + count ≤ n → list_any (again (g n)) (map g (range_with_len start count)) ≡ false
  beyond start zero n h = refl
  beyond start (suc count) n h =
      ap (λ c. c || list_any (again (g n)) (map g (range_with_len (start + 1) count))) (alike n start ∙ differ n start (omega (arith, h)))
      ∙ beyond (start + 1) count n (omega (arith, h))

  module _ {A : Type 0} (same : A → A → Bool) (same-true : (x y : A) → same x y ≡ true → x ≡ y) (same-self : (x : A) → same x x ≡ true) where
    abbrev Order : ℕ → List B
    Order n = map g (range_with_len 0 n)

    any_at : (xs : List A) (i : ℕ) (x : A) → slice_get xs i ≡ Some x → is_member same xs x ≡ true
    any_at [] i x h = absurd (none≢some h)
    any_at (y ∷ xs) zero x h = ap (λ c. c || is_member same xs x) (ap (same x) (some_inj h) ∙ same-self x)
    any_at (y ∷ xs) (suc i) x h = by (same x y) (any_at xs i x h)
      where
        by : (b : Bool) → is_member same xs x ≡ true → (b || is_member same xs x) ≡ true
        by true e = refl
        by false e = e

    -- a member of the order so far has one of its numbers
    old_number : (order final : List A) (x : A) → is_member same order x ≡ true → Grows order final → number_in same final x < length order
    old_number order final x e grows =
        let at : In order x =
        subst (λ b. In (cond b order (order ++ x ∷ [])) x) e (new_in same same-true same-self (λ y. Unit {0}) order x (λ i y h. tt) tt).1 in
        let least = number_at same same-true same-self final at.0 x (grows at.0 x at.1) in
        omega (arith, least.0, got_below order at.0 x at.1)

    -- one that is new has the next
    new_number : (order final : List A) (x : A) → is_member same order x ≡ false → Grows (order ++ x ∷ []) final → number_in same final x ≡ length order
    new_number order final x e grows = by
      where
        least : (number_in same final x ≤ length order) × (slice_get final (number_in same final x) ≡ Some x)
        least = number_at same same-true same-self final (length order) x (grows (length order) x (pushed order x))

        old : (i : ℕ) (y : A) → slice_get order i ≡ Some y → slice_get final i ≡ Some y
        old i y h = grows i y (first order i y h)
          where
            first : (xs : List A) (i : ℕ) (y : A) → slice_get xs i ≡ Some y → slice_get (xs ++ x ∷ []) i ≡ Some y
            first xs i y h = grows_push xs x i y h

        outside : number_in same final x < length order → ⊥
        outside below =
            let there = there_is order (number_in same final x) below in
            let is : there.0 ≡ x = some_inj (sym (old (number_in same final x) there.0 there.1) ∙ least.1) in
            false≢true (sym e ∙ any_at order (number_in same final x) x (there.1 ∙ ap Some is))

        by : number_in same final x ≡ length order
        by = omega (arith, outside, least.0)

    one : (order final : List A) (x : A) → Grows (with_new same order x) final →
        with_new again (Order (length order)) (g (number_in same final x)) ≡ Order (length (with_new same order x))
    one order final x = by (is_member same order x) refl
      where
        by : (b : Bool) → is_member same order x ≡ b → Grows (cond b order (order ++ x ∷ [])) final →
            with_new again (Order (length order)) (g (number_in same final x)) ≡ Order (length (cond b order (order ++ x ∷ [])))
        by true e grows =
            let n : ℕ = number_in same final x in
            ap (λ b. cond b (Order (length order)) (Order (length order) ++ g n ∷ []))
            (among 0 (length order) n (omega arith) (omega (arith, old_number order final x e grows)))
        by false e grows =
            let n : ℕ = number_in same final x in
            let next : n ≡ length order = new_number order final x e grows in
            let longer : length order + 1 ≡ length (order ++ x ∷ []) = sym (length-append order (x ∷ [])) in
            ap (λ b. cond b (Order (length order)) (Order (length order) ++ g n ∷ [])) (beyond 0 (length order) n (omega (arith, next)))
            ∙ sym (map-range_with_len_more g 0 (length order) n (omega (arith, next))) ∙ ap Order longer

    all_again : (order xs final : List A) → final ≡ fold (with_new same) order xs →
        fold (with_new again) (Order (length order)) (map (λ x. g (number_in same final x)) xs) ≡ Order (length final)
    all_again order [] final e = ap (λ l. Order (length l)) (sym e)
    all_again order (x ∷ xs) final e =
        let grows : Grows (with_new same order x) final =
        subst (Grows (with_new same order x)) (sym e)
        (all_in_firsts same same-true same-self (λ y. Unit {0}) (with_new same order x) xs (λ i y h. tt) (units xs)).0 in
        ap (λ l. fold (with_new again) l (map (λ y. g (number_in same final y)) xs)) (one order final x grows)
        ∙ all_again (with_new same order x) xs final e
      where
        units : (ys : List A) → AllByRecursion (λ y. Unit {0}) ys
        units [] = tt
        units (y ∷ ys) = (tt, units ys)

    -- The numbers of the members of a list, by its order, are in order themselves.
    pub numbers_in_order : (xs : List A) →
        firsts again (map (λ x. g (number_in same (firsts same xs) x)) xs) ≡ map g (range_with_len 0 (length (firsts same xs)))
    numbers_in_order xs = all_again [] xs (firsts same xs) refl
