-- Lists in which each member stands once, where it first appears, and the numbers of the members.
use Rattle.std.proofs.Common.{◌≡◌, ℕ, zero, suc, ◌+◌, ◌<◌, ◌≤◌, Bool, true, false, cond, not, ◌||◌, List, [], ◌∷◌, ◌++◌, length, Some, None, refl, sym, ap, ◌∙◌, subst, arith, one-add}
use Rattle.std.specs.Prelude.{nat_eq, slice_get, unwrap_or}
use Rattle.std.specs.List.{AllByRecursion, fold, list_any, position_or_len}
use Rattle.std.specs.Set.{is_member}
use Rattle.std.proofs.lemmas.Bool.{false≢true, lt-ltb}
use Rattle.std.proofs.lemmas.Bool.Decides.{Decides-eqb}
use Rattle.leg_rules.specs.Numbering.{with_new, number_in}

pub none≢some : {A : Type 0} {x : A} → None ≡ Some x → ⊥
none≢some e = cc

pub some_inj : {A : Type 0} {x y : A} → Some x ≡ Some y → x ≡ y
some_inj e = cc

pub same_bool : (a b : Bool) → (a ≡ true → b ≡ true) → (b ≡ true → a ≡ true) → a ≡ b
same_bool true true f g = refl
same_bool true false f g = absurd (false≢true (f refl))
same_bool false true f g = absurd (false≢true (g refl))
same_bool false false f g = refl

-- the element stands in the list
abbrev pub In : {A : Type 0} → List A → A → Type 0
In xs x = (i : ℕ) × (slice_get xs i ≡ Some x)

-- what stands in the first list stands at the same place of the second
abbrev pub Grows : {A : Type 0} → List A → List A → Type 0
Grows {A} old new = (i : ℕ) (x : A) → slice_get old i ≡ Some x → slice_get new i ≡ Some x

pub got_below : {A : Type 0} (xs : List A) (i : ℕ) (x : A) → slice_get xs i ≡ Some x → i < length xs
got_below [] i x h = absurd (none≢some h)
got_below (y ∷ xs) zero x h = omega arith
got_below (y ∷ xs) (suc i) x h = let l = got_below xs i x h in omega (arith, l)

pub there_is : {A : Type 0} (xs : List A) (i : ℕ) → i < length xs → (x : A) × (slice_get xs i ≡ Some x)
there_is [] i l = absurd (omega (arith, l))
there_is (x ∷ xs) zero l = (x, refl)
there_is (x ∷ xs) (suc i) l = there_is xs i (omega (arith, l))

pub grows_push : {A : Type 0} (xs : List A) (y : A) → Grows xs (xs ++ y ∷ [])
grows_push [] y i x h = absurd (none≢some h)
grows_push (z ∷ xs) y zero x h = h
grows_push (z ∷ xs) y (suc i) x h = grows_push xs y i x h

pub pushed : {A : Type 0} (xs : List A) (y : A) → slice_get (xs ++ y ∷ []) (length xs) ≡ Some y
pushed [] y = refl
pushed (z ∷ xs) y = pushed xs y

-- what stands in a list with one more stood there, or is that one
pub old_or_new : {A : Type 0} (P : A → Type 0) (xs : List A) (y : A) → ((i : ℕ) (x : A) → slice_get xs i ≡ Some x → P x) → P y → (i : ℕ) (x : A)
    → slice_get (xs ++ y ∷ []) i ≡ Some x → P x
old_or_new P [] y old new zero x h = subst P (some_inj h) new
old_or_new P [] y old new (suc i) x h = absurd (none≢some h)
old_or_new P (z ∷ xs) y old new zero x h = old zero x h
old_or_new P (z ∷ xs) y old new (suc i) x h = old_or_new P xs y (λ j w k. old (suc j) w k) new i x h

-- ---- all of a list

module _ {A : Type 0} (P : A → Type 0) where
  pub all_left : (xs ys : List A) → AllByRecursion P (xs ++ ys) → AllByRecursion P xs
  all_left [] ys h = tt
  all_left (x ∷ xs) ys h = (h.0, all_left xs ys h.1)

  pub all_right : (xs ys : List A) → AllByRecursion P (xs ++ ys) → AllByRecursion P ys
  all_right [] ys h = h
  all_right (x ∷ xs) ys h = all_right xs ys h.1

  pub all_append : (xs ys : List A) → AllByRecursion P xs → AllByRecursion P ys → AllByRecursion P (xs ++ ys)
  all_append [] ys h k = k
  all_append (x ∷ xs) ys h k = (h.0, all_append xs ys h.1 k)

  pub all_at : (xs : List A) → AllByRecursion P xs → (i : ℕ) (x : A) → slice_get xs i ≡ Some x → P x
  all_at [] h i x e = absurd (none≢some e)
  all_at (y ∷ xs) h zero x e = subst P (some_inj e) h.0
  all_at (y ∷ xs) h (suc i) x e = all_at xs h.1 i x e

pub all_mapped : {A : Type 0} (P Q : A → Type 0) → ((a : A) → P a → Q a) → (xs : List A) → AllByRecursion P xs → AllByRecursion Q xs
all_mapped P Q f [] h = tt
all_mapped P Q f (x ∷ xs) h = (f x h.0, all_mapped P Q f xs h.1)

-- ---- the first that passes a test

module _ {A : Type 0} (test : A → Bool) where
  -- at the place n, which is i at most, stands one that passes
  abbrev pub FoundBy : List A → ℕ → ℕ → Type 0
  FoundBy xs i n = (n ≤ i) × ((z : A) × (slice_get xs n ≡ Some z) × (test z ≡ true))

  found_here : (x : A) (xs : List A) (i n : ℕ) (b : Bool) → test x ≡ b → b ≡ true → FoundBy (x ∷ xs) i (cond (not b) (1 + n) 0)
  found_here x xs i n true e t = (omega arith, (x, refl, e))
  found_here x xs i n false e t = absurd (false≢true t)

  found_behind : (x : A) (xs : List A) (i n : ℕ) (b : Bool) → test x ≡ b → FoundBy xs i n → FoundBy (x ∷ xs) (suc i) (cond (not b) (1 + n) 0)
  found_behind x xs i n true e f = (omega arith, (x, refl, e))
  found_behind x xs i n false e f =
      (omega (arith, f.0), (f.1.0, subst (λ k. slice_get (x ∷ xs) k ≡ Some f.1.0) (sym (one-add n)) f.1.1, f.1.2))

  found : (xs : List A) (i : ℕ) (y : A) → slice_get xs i ≡ Some y → test y ≡ true → FoundBy xs i (position_or_len test xs)
  found [] i y h t = absurd (none≢some h)
  found (x ∷ xs) zero y h t = found_here x xs zero (position_or_len test xs) (test x) refl (subst (λ z. test z ≡ true) (sym (some_inj h)) t)
  found (x ∷ xs) (suc i) y h t = found_behind x xs i (position_or_len test xs) (test x) refl (found xs i y h t)

-- ---- numbers of members

module _ {A : Type 0} (same : A → A → Bool) (same-true : (x y : A) → same x y ≡ true → x ≡ y) (same-self : (x : A) → same x x ≡ true) where
  number_is : (xs : List A) (x z : A) → slice_get xs (position_or_len (same x) xs) ≡ Some z → number_in same xs x ≡ position_or_len (same x) xs
  number_is xs x z h =
      let n = position_or_len (same x) xs in
      ap (λ b. unwrap_or (cond b (Some n) None) 0) (lt-ltb n (length xs) (got_below xs n z h))

  -- The number of a member is the first place at which it stands.
  pub number_at : (xs : List A) (i : ℕ) (x : A) → slice_get xs i ≡ Some x → (number_in same xs x ≤ i) × (slice_get xs (number_in same xs x) ≡ Some x)
  number_at xs i x h =
      let f = found (same x) xs i x h (same-self x) in
      let is = number_is xs x f.1.0 f.1.1 in (
        subst (λ n. n ≤ i) (sym is) f.0,
        subst (λ n. slice_get xs n ≡ Some x) (sym is) (f.1.1 ∙ ap Some (sym (same-true x f.1.0 f.1.2))),
      )

  -- Members are the same where their numbers are.
  pub same_numbers : (xs : List A) (x y : A) → In xs x → In xs y → nat_eq (number_in same xs y) (number_in same xs x) ≡ same y x
  same_numbers xs x y at_x at_y = same_bool _ _
      (λ e. subst (λ z. same y z ≡ true) (some_inj (sym (number_at xs at_y.0 y at_y.1).1
      ∙ subst (λ n. slice_get xs n ≡ Some x) (sym ((Decides-eqb _ _).0 e)) (number_at xs at_x.0 x at_x.1).1)) (same-self y))
      (λ e. subst (λ z. nat_eq (number_in same xs y) (number_in same xs z) ≡ true) (same-true y x e) ((Decides-eqb _ _).1 refl))

  member_step : (y : A) (xs : List A) (x : A) (b : Bool) → same x y ≡ b → (b || list_any (same x) xs) ≡ true → (list_any (same x) xs ≡ true → In xs x)
      → In (y ∷ xs) x
  member_step y xs x true e h next = (0, ap Some (sym (same-true x y e)))
  member_step y xs x false e h next = let i = next h in (suc i.0, i.1)

  member_in : (xs : List A) (x : A) → is_member same xs x ≡ true → In xs x
  member_in [] x h = absurd (false≢true h)
  member_in (y ∷ xs) x h = member_step y xs x (same x y) refl h (member_in xs x)

  -- a list with one more, unless that one stands in it
  pub new_in : (P : A → Type 0) (xs : List A) (x : A) → ((i : ℕ) (y : A) → slice_get xs i ≡ Some y → P y) → P x
      → Grows xs (with_new same xs x) × In (with_new same xs x) x × ((i : ℕ) (y : A) → slice_get (with_new same xs x) i ≡ Some y → P y)
  new_in P xs x old new = new_by (is_member same xs x) refl
    where
      new_by : (b : Bool) → is_member same xs x ≡ b
          → Grows xs (cond b xs (xs ++ x ∷ [])) × In (cond b xs (xs ++ x ∷ [])) x × ((i : ℕ) (y : A) → slice_get (cond b xs (xs ++ x ∷ [])) i ≡ Some y → P y)
      new_by true e = (λ i y h. h, member_in xs x e, old)
      new_by false e = (grows_push xs x, (length xs, pushed xs x), old_or_new P xs x old new)

  -- The firsts of a list hold all that stands there, and nothing else.
  pub all_in_firsts : (P : A → Type 0) (order xs : List A) → ((i : ℕ) (y : A) → slice_get order i ≡ Some y → P y) → AllByRecursion P xs
      → Grows order (fold (with_new same) order xs) × AllByRecursion (In (fold (with_new same) order xs)) xs
      × ((i : ℕ) (y : A) → slice_get (fold (with_new same) order xs) i ≡ Some y → P y)
  all_in_firsts P order [] old h = (λ i x e. e, tt, old)
  all_in_firsts P order (x ∷ xs) old h =
      let one = new_in P order x old h.0 in
      let rest = all_in_firsts P (with_new same order x) xs one.2 h.1 in
      (λ i y e. rest.0 i y (one.0 i y e), ((one.1.0, rest.0 one.1.0 x one.1.1), rest.1), rest.2)
