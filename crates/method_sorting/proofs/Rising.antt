-- What rises by names, and has what ties in the order of another list, is that list in its order.
use Rattle.std.proofs.Common.{◌≡◌, ℕ, suc, ◌+◌, ◌<◌, Bool, true, false, cond, not, ◌&&◌, List, [], ◌∷◌, length, drop, get_or, refl, sym, ap, ap₂, ◌∙◌, subst, true≢false, arith}
use Rattle.std.specs.List.{AllByRecursion, filter}
use Rattle.std.specs.List.Sorted.{IsSortedBy, IsStableBy, ties}
use Rattle.std.specs.Cmp.{IsStrictWeakOrder}
use Rattle.std.proofs.lemmas.Cmp.{nat_list_cmp_total}
use Rattle.std.proofs.lemmas.List.Sorted.{ranks_by}
use Rattle.type_rules.specs.Faults.{precedes}
use Rattle.method_sorting.specs.Ordered.{in_turn, put}

-- ---- truth values and lists

first_off : (a b : Bool) → not a && not b ≡ true → a ≡ false
first_off true b e = absurd (true≢false (sym e))
first_off false b e = refl

second_off : (a b : Bool) → not a && not b ≡ true → b ≡ false
second_off true b e = absurd (true≢false (sym e))
second_off false true e = absurd (true≢false (sym e))
second_off false false e = refl

both_off : (a b : Bool) → not a && not b ≡ not b && not a
both_off true true = refl
both_off true false = refl
both_off false true = refl
both_off false false = refl

not_empty : {X : Type 0} (x : X) (xs : List X) → [] ≡ x ∷ xs → ⊥
not_empty x xs h = cc (h)

first_of : {X : Type 0} (x y : X) (xs ys : List X) → x ∷ xs ≡ y ∷ ys → x ≡ y
first_of x y xs ys h = ap (λ zs. get_or zs 0 x) h

others_of : {X : Type 0} (x y : X) (xs ys : List X) → x ∷ xs ≡ y ∷ ys → xs ≡ ys
others_of x y xs ys h = ap (drop 1) h

module _ {X : Type 0} (name : X → List ℕ) where
  abbrev pub comes : X → X → Bool
  comes x y = precedes (name x) (name y)

  pub order : IsStrictWeakOrder comes
  order = ranks_by nat_list_cmp_total name

  -- none has one behind it that comes before it
  abbrev pub IsRising : List X → Type 0
  IsRising [] = Unit {0}
  IsRising (x ∷ xs) = AllByRecursion (λ y. comes y x ≡ false) xs × IsRising xs

  behind : (x y : X) (zs : List X) → comes y x ≡ false → AllByRecursion (λ z. comes z y ≡ false) zs → AllByRecursion (λ z. comes z x ≡ false) zs
  behind x y [] h all = tt
  behind x y (z ∷ zs) h all = (order.chain z y x all.0 h, behind x y zs h all.1)

  -- ---- what was put in order rises

  put_all_by : (P : X → Type 0) (x y : X) (ys : List X) (b : Bool) → P x → P y → AllByRecursion P ys → AllByRecursion P (put name x ys) →
      AllByRecursion P (cond b (y ∷ put name x ys) (x ∷ y ∷ ys))
  put_all_by P x y ys true px py all rest = (py, rest)
  put_all_by P x y ys false px py all rest = (px, (py, all))

  put_all : (P : X → Type 0) (x : X) (ys : List X) → P x → AllByRecursion P ys → AllByRecursion P (put name x ys)
  put_all P x [] px all = (px, tt)
  put_all P x (y ∷ ys) px all = put_all_by P x y ys (comes y x) px all.0 all.1 (put_all P x ys px all.1)

  put_rises_by : (x y : X) (ys : List X) (b : Bool) → comes y x ≡ b → IsRising (y ∷ ys) → IsRising (put name x ys) →
      IsRising (cond b (y ∷ put name x ys) (x ∷ y ∷ ys))
  put_rises_by x y ys true first rises rest = (put_all (λ z. comes z y ≡ false) x ys (order.one_way y x first) rises.0, rest)
  put_rises_by x y ys false first rises rest = ((first, behind x y ys first rises.0), rises)

  put_rises : (x : X) (ys : List X) → IsRising ys → IsRising (put name x ys)
  put_rises x [] rises = (tt, tt)
  put_rises x (y ∷ ys) rises = put_rises_by x y ys (comes y x) refl rises (put_rises x ys rises.1)

  pub in_turn_rises : (xs : List X) → IsRising (in_turn name xs)
  in_turn_rises [] = tt
  in_turn_rises (x ∷ xs) = put_rises x (in_turn name xs) (in_turn_rises xs)

  -- ---- and has what ties in its order

  swapped : (w x y : X) (zs : List X) (a b : Bool) → ties comes w x ≡ a → ties comes w y ≡ b → comes y x ≡ true →
      cond b (y ∷ cond a (x ∷ zs) zs) (cond a (x ∷ zs) zs) ≡ cond a (x ∷ cond b (y ∷ zs) zs) (cond b (y ∷ zs) zs)
  swapped w x y zs true false p q first = refl
  swapped w x y zs false b p q first = refl
  swapped w x y zs true true p q first =
      absurd (true≢false (sym first ∙ order.chain y w x (second_off (comes w y) (comes y w) q) (first_off (comes w x) (comes x w) p)))

  put_stable_by : (w x y : X) (ys : List X) (b : Bool) → comes y x ≡ b → filter (ties comes w) (put name x ys) ≡ filter (ties comes w) (x ∷ ys) →
      filter (ties comes w) (cond b (y ∷ put name x ys) (x ∷ y ∷ ys)) ≡ filter (ties comes w) (x ∷ y ∷ ys)
  put_stable_by w x y ys true first rest =
      ap (λ zs. cond (ties comes w y) (y ∷ zs) zs) rest ∙ swapped w x y (filter (ties comes w) ys) (ties comes w x) (ties comes w y) refl refl first
  put_stable_by w x y ys false first rest = refl

  put_stable : (w x : X) (ys : List X) → filter (ties comes w) (put name x ys) ≡ filter (ties comes w) (x ∷ ys)
  put_stable w x [] = refl
  put_stable w x (y ∷ ys) = put_stable_by w x y ys (comes y x) refl (put_stable w x ys)

  pub in_turn_stable : (w : X) (xs : List X) → filter (ties comes w) (in_turn name xs) ≡ filter (ties comes w) xs
  in_turn_stable w [] = refl
  in_turn_stable w (x ∷ xs) = put_stable w x (in_turn name xs) ∙ ap (λ zs. cond (ties comes w x) (x ∷ zs) zs) (in_turn_stable w xs)

  -- ---- there is one such list

  found_by : (p : X → Bool) (Q : X → Type 0) (x y : X) (zs ys : List X) (b : Bool) → (filter p ys ≡ x ∷ zs → Q x) →
      cond b (y ∷ filter p ys) (filter p ys) ≡ x ∷ zs → Q y → Q x
  found_by p Q x y zs ys true rest e q = subst Q (first_of y x (filter p ys) zs e) q
  found_by p Q x y zs ys false rest e q = rest e

  found : (p : X → Bool) (Q : X → Type 0) (x : X) (zs ys : List X) → filter p ys ≡ x ∷ zs → AllByRecursion Q ys → Q x
  found p Q x zs [] e all = absurd (not_empty x zs e)
  found p Q x zs (y ∷ ys) e all = found_by p Q x y zs ys (p y) (λ h. found p Q x zs ys h all.1) e all.0

  never : (x : X) (b : Bool) → comes x x ≡ b → comes x x ≡ false
  never x true h = order.one_way x x h
  never x false h = h

  ties_self : (x : X) → ties comes x x ≡ true
  ties_self x = ap (λ b. not b && not b) (never x (comes x x) refl)

  ties_turned : (x y : X) → ties comes x y ≡ ties comes y x
  ties_turned x y = both_off (comes x y) (comes y x)

  rest_by : (b : Bool) (x y : X) (xs ys : List X) → x ≡ y → cond b (x ∷ xs) xs ≡ cond b (y ∷ ys) ys → xs ≡ ys
  rest_by true x y xs ys same e = others_of x y xs ys e
  rest_by false x y xs ys same e = e

  AreTied : List X → List X → Type 0
  AreTied xs ys = (w : X) → filter (ties comes w) xs ≡ filter (ties comes w) ys

  rests_tied : (x y : X) (xs ys : List X) → x ≡ y → AreTied (x ∷ xs) (y ∷ ys) → AreTied xs ys
  unfolding AreTied
  rests_tied x y xs ys same all w =
      rest_by (ties comes w x) x y (filter (ties comes w) xs) (filter (ties comes w) ys) same
      (all w ∙ ap (λ v. cond (ties comes w v) (y ∷ filter (ties comes w) ys) (filter (ties comes w) ys)) (sym same))

  same_by : (x y : X) (xs ys : List X) (b : Bool) → ties comes x y ≡ b → IsRising (x ∷ xs) → IsRising (y ∷ ys) → AreTied (x ∷ xs) (y ∷ ys) →
      (AreTied xs ys → xs ≡ ys) → x ∷ xs ≡ y ∷ ys
  unfolding AreTied
  same_by x y xs ys true tied up down all rest =
      let one : x ∷ filter (ties comes x) xs ≡ y ∷ filter (ties comes x) ys =
      sym (ap (λ b. cond b (x ∷ filter (ties comes x) xs) (filter (ties comes x) xs)) (ties_self x))
      ∙ all x ∙ ap (λ b. cond b (y ∷ filter (ties comes x) ys) (filter (ties comes x) ys)) tied in
      let same : x ≡ y = first_of x y (filter (ties comes x) xs) (filter (ties comes x) ys) one in
      ap₂ (λ v vs. v ∷ vs) same (rest (rests_tied x y xs ys same all))
  same_by x y xs ys false apart up down all rest =
      let here : filter (ties comes x) ys ≡ x ∷ filter (ties comes x) xs =
      sym (sym (ap (λ b. cond b (x ∷ filter (ties comes x) xs) (filter (ties comes x) xs)) (ties_self x))
      ∙ all x ∙ ap (λ b. cond b (y ∷ filter (ties comes x) ys) (filter (ties comes x) ys)) apart) in
      let there : filter (ties comes y) xs ≡ y ∷ filter (ties comes y) ys =
      sym (ap (λ b. cond b (x ∷ filter (ties comes y) xs) (filter (ties comes y) xs)) (ties_turned y x ∙ apart))
      ∙ all y ∙ ap (λ b. cond b (y ∷ filter (ties comes y) ys) (filter (ties comes y) ys)) (ties_self y) in
      let one : comes x y ≡ false = found (ties comes x) (λ z. comes z y ≡ false) x (filter (ties comes x) xs) ys here down.0 in
      let two : comes y x ≡ false = found (ties comes y) (λ z. comes z x ≡ false) y (filter (ties comes y) ys) xs there up.0 in
      absurd (true≢false (sym (ap₂ (λ a b. not a && not b) one two) ∙ apart))

  only_one : (xs ys : List X) → IsRising xs → IsRising ys → AreTied xs ys → xs ≡ ys
  unfolding AreTied
  only_one [] [] up down all = refl
  only_one [] (y ∷ ys) up down all =
      absurd (not_empty y (filter (ties comes y) ys) (all y ∙ ap (λ b. cond b (y ∷ filter (ties comes y) ys) (filter (ties comes y) ys)) (ties_self y)))
  only_one (x ∷ xs) [] up down all =
      absurd (not_empty x (filter (ties comes x) xs) (sym (all x) ∙ ap (λ b. cond b (x ∷ filter (ties comes x) xs) (filter (ties comes x) xs)) (ties_self x)))
  only_one (x ∷ xs) (y ∷ ys) up down all =
      same_by x y xs ys (ties comes x y) refl up down all (only_one xs ys up.1 down.1)

  -- ---- what a sort ensures

  sorted_tail : (x : X) (xs : List X) → IsSortedBy comes (x ∷ xs) → IsSortedBy comes xs
  sorted_tail x xs up = λ k d low high.
      let next : suc k + 1 ≡ suc (k + 1) = omega arith in
      let within : suc k + 1 < length (x ∷ xs) = omega (arith, high) in
      subst (λ n. comes (get_or (x ∷ xs) n d) (get_or (x ∷ xs) (suc k) d) ≡ false) next (up (suc k) d (omega arith) within)

  rising_with : (x : X) (xs : List X) → IsSortedBy comes (x ∷ xs) → IsRising xs → AllByRecursion (λ y. comes y x ≡ false) xs
  rising_with x [] up rest = tt
  rising_with x (y ∷ ys) up rest =
      let next : comes y x ≡ false = up 0 x (omega arith) (omega arith) in
      (next, behind x y ys next rest.0)

  rising_from : (xs : List X) → IsSortedBy comes xs → IsRising xs
  rising_from [] up = tt
  rising_from (x ∷ xs) up =
      let rest = rising_from xs (sorted_tail x xs up) in
      (rising_with x xs up rest, rest)

  pub sorted_is : (xs ys : List X) → IsSortedBy comes ys → IsStableBy comes xs ys → ys ≡ in_turn name xs
  unfolding AreTied
  sorted_is xs ys sorted stable =
      only_one ys (in_turn name xs) (rising_from ys sorted) (in_turn_rises xs) (λ w. stable w ∙ sym (in_turn_stable w xs))
