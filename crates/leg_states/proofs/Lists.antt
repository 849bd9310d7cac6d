-- Versions of variables as lists.
use Rattle.std.proofs.Common.{◌≡◌, ℕ, zero, suc, pred, ◌+◌, ◌<◌, Bool, true, false, cond, List, [], ◌∷◌, ◌++◌, set, length, get_or, slice_get, Option, Some, None, ◌⊎◌, inl, inr, refl, sym, ap, ap₂, ◌∙◌, arith, get_or-set_same, get_or-set_other, length-set}
use Rattle.std.specs.Prelude.{nat_eq, ◌&&◌}
use Rattle.std.specs.Option.{option_flatten}
use Rattle.std.proofs.Math.ListN.{replicate}
use Rattle.std.proofs.lemmas.Bool.{cases_eq}
use Rattle.std.proofs.lemmas.Bool.Decides.{Decides-eqb}
use Rattle.std.proofs.lemmas.List.{length_push}
use Rattle.std.proofs.lemmas.Option.{slice_get-get_or}
use Rattle.leg_states.specs.State.{number_at, version_at, put, pushed}

-- ---- tests

pub equal_numbers : (a b : ℕ) → a ≡ b → nat_eq a b ≡ true
equal_numbers a b e = (Decides-eqb a b).1 e

not_true : (b : Bool) → (b ≡ true → ⊥) → b ≡ false
not_true true h = absurd (h refl)
not_true false h = refl

pub other_numbers : (a b : ℕ) → (a ≡ b → ⊥) → nat_eq a b ≡ false
other_numbers a b ne = not_true (nat_eq a b) (λ e. ne ((Decides-eqb a b).0 e))

pub chosen : {A : Type 0} (b : Bool) (u v : A) → b ≡ true → cond b u v ≡ u
chosen b u v e = ap (λ t. cond t u v) e

pub passed : {A : Type 0} (b : Bool) (u v : A) → b ≡ false → cond b u v ≡ v
passed b u v e = ap (λ t. cond t u v) e

both_equal : (y x m k : ℕ) → y ≡ x → m ≡ k → nat_eq y x && nat_eq m k ≡ true
both_equal y x m k e f = ap₂ (λ a b. a && b) (equal_numbers y x e) (equal_numbers m k f)

first_other : (y x m k : ℕ) → (y ≡ x → ⊥) → nat_eq y x && nat_eq m k ≡ false
first_other y x m k ne = ap (λ a. a && nat_eq m k) (other_numbers y x ne)

second_other : (y x m k : ℕ) → y ≡ x → (m ≡ k → ⊥) → nat_eq y x && nat_eq m k ≡ false
second_other y x m k e ne = ap₂ (λ a b. a && b) (equal_numbers y x e) (other_numbers m k ne)

-- ---- one list

slice_get-set_same : {A : Type 0} (l : List A) (k : ℕ) (a : A) → k < length l → slice_get (set l k a) k ≡ Some a
slice_get-set_same l k a h = slice_get-get_or (set l k a) k a (omega (arith, length-set l k a)) ∙ ap Some (get_or-set_same l k a a h)

slice_get-set_other : {A : Type 0} (l : List A) (k m : ℕ) (a : A) → (m ≡ k → ⊥) → slice_get (set l k a) m ≡ slice_get l m
slice_get-set_other [] k m a ne = refl
slice_get-set_other (x ∷ l) zero zero a ne = absurd (ne refl)
slice_get-set_other (x ∷ l) zero (suc m) a ne = refl
slice_get-set_other (x ∷ l) (suc k) zero a ne = refl
slice_get-set_other (x ∷ l) (suc k) (suc m) a ne = slice_get-set_other l k m a (λ e. ne (ap suc e))

slice_get-push_same : {A : Type 0} (l : List A) (a : A) → slice_get (l ++ a ∷ []) (length l) ≡ Some a
slice_get-push_same [] a = refl
slice_get-push_same (x ∷ l) a = slice_get-push_same l a

slice_get-push_other : {A : Type 0} (l : List A) (m : ℕ) (a : A) → (m ≡ length l → ⊥) → slice_get (l ++ a ∷ []) m ≡ slice_get l m
slice_get-push_other [] zero a ne = absurd (ne refl)
slice_get-push_other [] (suc m) a ne = refl
slice_get-push_other (x ∷ l) zero a ne = refl
slice_get-push_other (x ∷ l) (suc m) a ne = slice_get-push_other l m a (λ e. ne (ap suc e))

slice_get_end : {A : Type 0} (l : List A) → slice_get l (length l) ≡ None
slice_get_end [] = refl
slice_get_end (x ∷ l) = slice_get_end l

pub last_of_more : (n m : ℕ) → m ≡ n + 1 → 0 < n → pred m ≡ suc (pred n)
last_of_more zero m e h = absurd (omega arith)
last_of_more (suc n) m e h =
    let is : m ≡ suc (suc n) = omega arith in
    ap pred is

last_is_within : (n : ℕ) → 0 < n → suc (pred n) ≡ n
last_is_within zero h = absurd (omega arith)
last_is_within (suc n) h = refl

pub last_below : (n : ℕ) → 0 < n → pred n < n
last_below zero h = absurd (omega arith)
last_below (suc n) h = omega arith

-- ---- all lists

replaced_same : (lists : List (List (Option ℕ))) (x y : ℕ) (l : List (Option ℕ)) → y ≡ x → x < length lists → get_or (set lists x l) y [] ≡ l
replaced_same lists x y l e h = ap (λ z. get_or (set lists x l) z []) e ∙ get_or-set_same lists x l [] h

pub number_at-put : (lists : List (List (Option ℕ))) (x k id y m : ℕ) → x < length lists → k < length (get_or lists x [])
    → number_at (put lists x k id) y m ≡ cond (nat_eq y x && nat_eq m k) (Some id) (number_at lists y m)
number_at-put lists x k id y m hx hk = by_variable (cases_eq y x)
  where
    by_version : y ≡ x → (m ≡ k) ⊎ (m ≡ k → ⊥) → option_flatten (slice_get (set (get_or lists x []) k (Some id)) m)
        ≡ cond (nat_eq y x && nat_eq m k) (Some id) (number_at lists y m)
    by_version e (inl f) =
        ap option_flatten (ap (slice_get (set (get_or lists x []) k (Some id))) f ∙ slice_get-set_same (get_or lists x []) k (Some id) hk)
        ∙ sym (chosen (nat_eq y x && nat_eq m k) (Some id) (number_at lists y m) (both_equal y x m k e f))
    by_version e (inr ne) =
        ap option_flatten (slice_get-set_other (get_or lists x []) k m (Some id) ne) ∙ ap (λ z. number_at lists z m) (sym e)
        ∙ sym (passed (nat_eq y x && nat_eq m k) (Some id) (number_at lists y m) (second_other y x m k e ne))

    by_variable : (y ≡ x) ⊎ (y ≡ x → ⊥) → number_at (put lists x k id) y m ≡ cond (nat_eq y x && nat_eq m k) (Some id) (number_at lists y m)
    by_variable (inl e) =
        ap (λ q. option_flatten (slice_get q m)) (replaced_same lists x y (set (get_or lists x []) k (Some id)) e hx) ∙ by_version e (cases_eq m k)
    by_variable (inr ne) =
        ap (λ q. option_flatten (slice_get q m)) (get_or-set_other lists x y (set (get_or lists x []) k (Some id)) [] ne)
        ∙ sym (passed (nat_eq y x && nat_eq m k) (Some id) (number_at lists y m) (first_other y x m k ne))

-- how long the list of a variable is where one list was replaced
length-replaced : (lists : List (List (Option ℕ))) (x y : ℕ) (l : List (Option ℕ)) → x < length lists → length l ≡ length (get_or lists x [])
    → length (get_or (set lists x l) y []) ≡ length (get_or lists y [])
length-replaced lists x y l hx same = by_variable (cases_eq y x)
  where
    by_variable : (y ≡ x) ⊎ (y ≡ x → ⊥) → length (get_or (set lists x l) y []) ≡ length (get_or lists y [])
    by_variable (inl e) = ap length (replaced_same lists x y l e hx) ∙ same ∙ ap (λ z. length (get_or lists z [])) (sym e)
    by_variable (inr ne) = ap length (get_or-set_other lists x y l [] ne)

pub length-put : (lists : List (List (Option ℕ))) (x k id y : ℕ) → x < length lists → length (get_or (put lists x k id) y []) ≡ length (get_or lists y [])
length-put lists x k id y hx =
    length-replaced lists x y (set (get_or lists x []) k (Some id)) hx (length-set (get_or lists x []) k (Some id))

pub length-pushed : (lists : List (List (Option ℕ))) (x : ℕ) (id : Option ℕ) (y : ℕ) → x < length lists
    → length (get_or (pushed lists x id) y []) ≡ cond (nat_eq y x) (length (get_or lists y []) + 1) (length (get_or lists y []))
length-pushed lists x id y hx = by_variable (cases_eq y x)
  where
    by_variable : (y ≡ x) ⊎ (y ≡ x → ⊥) → length (get_or (pushed lists x id) y []) ≡ cond (nat_eq y x) (length (get_or lists y []) + 1) (length (get_or lists y []))
    by_variable (inl e) =
        ap length (replaced_same lists x y (get_or lists x [] ++ id ∷ []) e hx) ∙ length_push (get_or lists x []) id
        ∙ ap (λ z. length (get_or lists z []) + 1) (sym e)
        ∙ sym (chosen (nat_eq y x) (length (get_or lists y []) + 1) (length (get_or lists y [])) (equal_numbers y x e))
    by_variable (inr ne) =
        ap length (get_or-set_other lists x y (get_or lists x [] ++ id ∷ []) [] ne)
        ∙ sym (passed (nat_eq y x) (length (get_or lists y []) + 1) (length (get_or lists y [])) (other_numbers y x ne))

pub version_at-pushed : (lists : List (List (Option ℕ))) (x : ℕ) (id : Option ℕ) (y : ℕ) → x < length lists → 0 < length (get_or lists x [])
    → version_at (pushed lists x id) y ≡ cond (nat_eq y x) (suc (version_at lists y)) (version_at lists y)
version_at-pushed lists x id y hx h = by_variable (cases_eq y x)
  where
    by_variable : (y ≡ x) ⊎ (y ≡ x → ⊥) → version_at (pushed lists x id) y ≡ cond (nat_eq y x) (suc (version_at lists y)) (version_at lists y)
    by_variable (inl e) =
        let same = ap (λ z. length (get_or lists z [])) e in
        let longer = length-pushed lists x id y hx ∙ chosen (nat_eq y x) (length (get_or lists y []) + 1) (length (get_or lists y [])) (equal_numbers y x e) in
        let some : 0 < length (get_or lists y []) = omega (arith, same) in
        last_of_more (length (get_or lists y [])) (length (get_or (pushed lists x id) y [])) longer some
        ∙ sym (chosen (nat_eq y x) (suc (version_at lists y)) (version_at lists y) (equal_numbers y x e))
    by_variable (inr ne) =
        ap pred (length-pushed lists x id y hx ∙ passed (nat_eq y x) (length (get_or lists y []) + 1) (length (get_or lists y [])) (other_numbers y x ne))
        ∙ sym (passed (nat_eq y x) (suc (version_at lists y)) (version_at lists y) (other_numbers y x ne))

-- a version without a term adds none
pub number_at-pushed_none : (lists : List (List (Option ℕ))) (x y m : ℕ) → x < length lists → number_at (pushed lists x None) y m ≡ number_at lists y m
number_at-pushed_none lists x y m hx = by_variable (cases_eq y x)
  where
    by_version : (m ≡ length (get_or lists x [])) ⊎ (m ≡ length (get_or lists x []) → ⊥)
        → option_flatten (slice_get (get_or lists x [] ++ None ∷ []) m) ≡ number_at lists x m
    by_version (inl f) =
        ap (λ z. option_flatten (slice_get (get_or lists x [] ++ None ∷ []) z)) f ∙ ap option_flatten (slice_get-push_same (get_or lists x []) None)
        ∙ sym (ap (λ z. option_flatten (slice_get (get_or lists x []) z)) f ∙ ap option_flatten (slice_get_end (get_or lists x [])))
    by_version (inr ne) = ap option_flatten (slice_get-push_other (get_or lists x []) m None ne)

    by_variable : (y ≡ x) ⊎ (y ≡ x → ⊥) → number_at (pushed lists x None) y m ≡ number_at lists y m
    by_variable (inl e) =
        ap (λ q. option_flatten (slice_get q m)) (replaced_same lists x y (get_or lists x [] ++ None ∷ []) e hx)
        ∙ by_version (cases_eq m (length (get_or lists x []))) ∙ ap (λ z. number_at lists z m) (sym e)
    by_variable (inr ne) = ap (λ q. option_flatten (slice_get q m)) (get_or-set_other lists x y (get_or lists x [] ++ None ∷ []) [] ne)

pub number_at-pushed : (lists : List (List (Option ℕ))) (x id y m : ℕ) → x < length lists → 0 < length (get_or lists x [])
    → number_at (pushed lists x (Some id)) y m ≡ cond (nat_eq y x && nat_eq m (suc (version_at lists x))) (Some id) (number_at lists y m)
number_at-pushed lists x id y m hx h = by_variable (cases_eq y x)
  where
    here : suc (version_at lists x) ≡ length (get_or lists x [])
    here = last_is_within (length (get_or lists x [])) h

    by_version : y ≡ x → (m ≡ suc (version_at lists x)) ⊎ (m ≡ suc (version_at lists x) → ⊥)
        → option_flatten (slice_get (get_or lists x [] ++ Some id ∷ []) m)
        ≡ cond (nat_eq y x && nat_eq m (suc (version_at lists x))) (Some id) (number_at lists y m)
    by_version e (inl f) =
        ap (λ z. option_flatten (slice_get (get_or lists x [] ++ Some id ∷ []) z)) (f ∙ here)
        ∙ ap option_flatten (slice_get-push_same (get_or lists x []) (Some id))
        ∙ sym (chosen (nat_eq y x && nat_eq m (suc (version_at lists x))) (Some id) (number_at lists y m) (both_equal y x m (suc (version_at lists x)) e f))
    by_version e (inr ne) =
        ap option_flatten (slice_get-push_other (get_or lists x []) m (Some id) (λ f. ne (f ∙ sym here))) ∙ ap (λ z. number_at lists z m) (sym e)
        ∙ sym (passed (nat_eq y x && nat_eq m (suc (version_at lists x))) (Some id) (number_at lists y m) (second_other y x m (suc (version_at lists x)) e ne))

    by_variable : (y ≡ x) ⊎ (y ≡ x → ⊥)
        → number_at (pushed lists x (Some id)) y m ≡ cond (nat_eq y x && nat_eq m (suc (version_at lists x))) (Some id) (number_at lists y m)
    by_variable (inl e) =
        ap (λ q. option_flatten (slice_get q m)) (replaced_same lists x y (get_or lists x [] ++ Some id ∷ []) e hx)
        ∙ by_version e (cases_eq m (suc (version_at lists x)))
    by_variable (inr ne) =
        ap (λ q. option_flatten (slice_get q m)) (get_or-set_other lists x y (get_or lists x [] ++ Some id ∷ []) [] ne)
        ∙ sym (passed (nat_eq y x && nat_eq m (suc (version_at lists x))) (Some id) (number_at lists y m) (first_other y x m (suc (version_at lists x)) ne))

-- ---- the beginning

pub start_version : (count x : ℕ) → version_at (replicate count (None ∷ [])) x ≡ 0
start_version zero x = refl
start_version (suc count) zero = refl
start_version (suc count) (suc x) = start_version count x

pub start_number : (count x k : ℕ) → number_at (replicate count (None ∷ [])) x k ≡ None
start_number zero x k = refl
start_number (suc count) zero zero = refl
start_number (suc count) zero (suc k) = refl
start_number (suc count) (suc x) k = start_number count x k
