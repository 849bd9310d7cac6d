-- Sums of forms.
use Rattle.std.proofs.Common.{◌≡◌, ℕ, zero, suc, ◌+◌, ◌*◌, ◌^◌, ◌<◌, ◌≤◌, ℤ, pos, negsuc, neg_ℤ, ◌*ℤ◌, int_eq, cond, unsigned_abs, nat_le, List, [], ◌∷◌, ◌++◌, map, length, get_or, set, Bool, true, false, ◌&&◌, refl, sym, ap, ap₂, ◌∙◌, subst, arith, add-one}
use Rattle.std.specs.List.{list_all}
use Rattle.std.proofs.lemmas.List.{length-map, map-append, map-set}
use Rattle.std.proofs.Math.ListN.{get_or-map}
use Rattle.std.proofs.lemmas.Bool.{and_parts, and_from, leb-true}
use Rattle.std.proofs.lemmas.Int.{ints, unsigned_abs-mul}
use Rattle.slang_values.specs.Tree.{Tree}
use Rattle.tree_forms.specs.Form.{FormPart, LinearForm, constant_form, atom_form, scaled, inserted, all_inserted, multiplied, is_within, has_small_numbers}
use Rattle.term_forms.specs.declared.form.Part.{Part}
use Rattle.term_forms.specs.Form.{part_of, TimesWithin}

-- ---- small numbers

pub all_small-parts : (ps : List Part) → list_all (λ (p : FormPart). is_within p.times) (map part_of ps) ≡ list_all (λ (p : Part). is_within p.times) ps
all_small-parts [] = refl
all_small-parts (p ∷ ps) = ap (λ b. is_within p.times && b) (all_small-parts ps)

pub ruleset small_lines = (all_small-parts)

pub small_number : (z : ℤ) → is_within z ≡ true → unsigned_abs z ≤ 2 ^ 60
small_number z h = leb-true (unsigned_abs z) (2 ^ 60) h

small_times : (ps : List FormPart) → list_all (λ p. is_within p.times) ps ≡ true → TimesWithin (2 ^ 60) ps
small_times [] h = tt
small_times (p ∷ ps) h = let k = and_parts _ _ h in (small_number p.times k.0, small_times ps k.1)

pub small_form : (f : LinearForm) → has_small_numbers f ≡ true → TimesWithin (2 ^ 60) f.parts × (unsigned_abs f.constant ≤ 2 ^ 60)
small_form f h = let k = and_parts _ _ h in (small_times f.parts k.0, small_number f.constant k.1)

-- ---- all parts inserted, from the last on

pub all_inserted-last : (qs ps : List FormPart) (q : FormPart) → all_inserted (qs ++ q ∷ []) ps ≡ all_inserted qs (inserted q ps)
all_inserted-last [] ps q = refl
all_inserted-last (r ∷ qs) ps q = ap (inserted r) (all_inserted-last qs ps q)

-- ---- products in place

-- the list with f of each of the first n elements
abbrev pub partly : {A : Type 0} → (A → A) → ℕ → List A → List A
partly f zero xs = xs
partly f (suc n) [] = []
partly f (suc n) (x ∷ xs) = f x ∷ partly f n xs

pub partly-all : {A : Type 0} (f : A → A) (n : ℕ) (xs : List A) → length xs ≤ n → partly f n xs ≡ map f xs
partly-all f zero [] h = refl
partly-all f zero (x ∷ xs) h = absurd (omega arith)
partly-all f (suc n) [] h = refl
partly-all f (suc n) (x ∷ xs) h = ap (λ ys. f x ∷ ys) (partly-all f n xs (omega arith))

get_or-partly : {A : Type 0} (f : A → A) (n : ℕ) (xs : List A) (d : A) → get_or (partly f n xs) n d ≡ get_or xs n d
get_or-partly f zero xs d = refl
get_or-partly f (suc n) [] d = refl
get_or-partly f (suc n) (x ∷ xs) d = get_or-partly f n xs d

partly-more : {A : Type 0} (f : A → A) (n : ℕ) (xs : List A) (d : A) → n < length xs → set (partly f n xs) n (f (get_or xs n d)) ≡ partly f (suc n) xs
partly-more f zero [] d h = absurd (omega arith)
partly-more f zero (x ∷ xs) d h = refl
partly-more f (suc n) [] d h = absurd (omega arith)
partly-more f (suc n) (x ∷ xs) d h = ap (λ ys. f x ∷ ys) (partly-more f n xs d (omega arith))

module _ (ps old : List Part) (k : ℤ) (at : ℕ) (r : Part) (inv : map part_of ps ≡ partly (multiplied k) at (map part_of old)) (l : at < length old) where
  -- the part there is still the old one
  still_there : part_of (get_or ps at r) ≡ get_or (map part_of old) at (part_of r)
  still_there =
      sym (get_or-map part_of ps at r) ∙ ap (λ xs. get_or xs at (part_of r)) inv ∙ get_or-partly (multiplied k) at (map part_of old) (part_of r)

  pub small_there : (n : ℕ) → TimesWithin n (map part_of old) → unsigned_abs ((get_or ps at r).times) ≤ n
  small_there n h = subst (λ (p : FormPart). unsigned_abs p.times ≤ n) (sym still_there) (within_place (map part_of old) at (omega (arith, length-map old part_of)) h)
    where
      within_place : (xs : List FormPart) (i : ℕ) → i < length xs → TimesWithin n xs → unsigned_abs ((get_or xs i (part_of r)).times) ≤ n
      within_place [] i l h = absurd (omega arith)
      within_place (x ∷ xs) zero l h = h.0
      within_place (x ∷ xs) (suc i) l h = within_place xs i (omega arith) h.1

  pub multiplied_more : (s : ℤ) → s ≡ k *ℤ (get_or ps at r).times → map part_of (set ps at (record { atom = (get_or ps at r).atom; times = s })) ≡ partly (multiplied k) (at + 1) (map part_of old)
  multiplied_more s e =
      let made : part_of (record { atom = (get_or ps at r).atom; times = s }) ≡ multiplied k (get_or (map part_of old) at (part_of r)) =
      λ i. record { atom = (still_there i).atom; times = (e ∙ ap (λ p. k *ℤ p.times) still_there) i } in
      rw add-one (map-set part_of ps at (record { atom = (get_or ps at r).atom; times = s }) ∙ (λ i. set (inv i) at (made i)) ∙ partly-more (multiplied k) at (map part_of old) (part_of r) (omega (arith, length-map old part_of)))

-- ---- one more part from the end of the rest

within_front : (n : ℕ) (qs : List FormPart) (q : FormPart) → TimesWithin n (qs ++ q ∷ []) → TimesWithin n qs × (unsigned_abs q.times ≤ n)
within_front n [] q h = (tt, h.0)
within_front n (r ∷ qs) q h = let k = within_front n qs q h.1 in ((h.0, k.0), k.1)

-- the rest before its last part, and that part
pub before_last : (n : ℕ) (old new : List Part) (p : Part) → old ≡ new ++ p ∷ [] → TimesWithin n (map part_of old) → TimesWithin n (map part_of new) × (unsigned_abs p.times ≤ n)
before_last n old new p e h =
    within_front n (map part_of new) (part_of p) (subst (λ (xs : List FormPart). TimesWithin n xs) (ap (map part_of) e ∙ map-append part_of new (p ∷ [])) h)

pub same_with_last : (old new : List Part) (p : Part) (ps qs : List FormPart) → old ≡ new ++ p ∷ [] → qs ≡ inserted (part_of p) ps → all_inserted (map part_of new) qs ≡ all_inserted (map part_of old) ps
same_with_last old new p ps qs e f =
    ap (all_inserted (map part_of new)) f ∙ sym (all_inserted-last (map part_of new) ps (part_of p)) ∙ sym (ap (λ xs. all_inserted xs ps) (ap (map part_of) e ∙ map-append part_of new (p ∷ [])))

-- ---- multiples that stay small

small_opposite : (z : ℤ) → is_within (negsuc 0 *ℤ z) ≡ is_within z
small_opposite z = ap (λ n. nat_le n (2 ^ 60)) (unsigned_abs-mul (negsuc 0) z ∙ (let e : 1 * unsigned_abs z ≡ unsigned_abs z = omega arith in e))

small_opposites : (ps : List FormPart) → list_all (λ p. is_within p.times) (map (multiplied (negsuc 0)) ps) ≡ list_all (λ p. is_within p.times) ps
small_opposites [] = refl
small_opposites (p ∷ ps) = ap₂ ◌&&◌ (small_opposite p.times) (small_opposites ps)

pub small_difference : (f g : LinearForm) → g ≡ scaled (negsuc 0) f → has_small_numbers f ≡ true → has_small_numbers g ≡ true
small_difference f g e h = ap has_small_numbers e ∙ ap₂ ◌&&◌ (small_opposites f.parts) (small_opposite f.constant) ∙ h

small_one : (k : ℤ) → is_within (k *ℤ pos 1) ≡ is_within k
small_one k = ap (λ n. nat_le n (2 ^ 60)) (unsigned_abs-mul k (pos 1) ∙ (let e : unsigned_abs k * 1 ≡ unsigned_abs k = omega arith in e))

small_none : (k : ℤ) → is_within (k *ℤ pos 0) ≡ true
small_none k = ap (λ n. nat_le n (2 ^ 60)) (unsigned_abs-mul k (pos 0) ∙ (let e : unsigned_abs k * 0 ≡ 0 = omega arith in e))

small_scaled_atom : (b : Bool) (k : ℤ) (t : Tree ℕ) → is_within k ≡ true → has_small_numbers (cond b (constant_form (pos 0)) (record { parts = map (multiplied k) ((atom_form t).parts); constant = k *ℤ pos 0 })) ≡ true
small_scaled_atom true k t h = refl
small_scaled_atom false k t h = and_from _ _ (and_from _ _ (small_one k ∙ h) refl) (small_none k)

pub small_multiple : (k : ℤ) (t : Tree ℕ) (g : LinearForm) → g ≡ scaled k (atom_form t) → is_within k ≡ true → has_small_numbers g ≡ true
small_multiple k t g e h = ap has_small_numbers e ∙ small_scaled_atom (int_eq k (pos 0)) k t h

pub within_opposite : (k : ℤ) → is_within k ≡ true → is_within (neg_ℤ k) ≡ true
within_opposite k h = ap (λ n. nat_le n (2 ^ 60)) (abs-neg k) ∙ h
  where
    abs-neg : (z : ℤ) → unsigned_abs (neg_ℤ z) ≡ unsigned_abs z
    abs-neg z = omega (arith, ints)
