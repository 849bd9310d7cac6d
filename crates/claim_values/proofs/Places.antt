-- The values of bound variables by their numbers.
use Rattle.std.proofs.Common.{◌≡◌, ℕ, zero, suc, ◌+◌, ◌-◌, ◌<◌, ◌≤◌, ℤ, pos, List, [], ◌∷◌, ◌++◌, length, get_or, reverse, Option, Some, None, refl, sym, ap, ap₂, ◌∙◌, arith}
use Rattle.std.specs.Prelude.{slice_get, MatchOption}
use Rattle.std.proofs.lemmas.List.{get_or-reverse, get_or_past, reverse-append, length-reverse}
use Rattle.std.proofs.lemmas.Option.{get_or_from_slice_get}
use Rattle.slang_values.specs.Tree.{Bounds, inside}
use Rattle.validity.specs.Validity.{no_bounds}
use Rattle.claim_values.specs.Claims.{bounds_in}

pub bound_there : (bound : List ℤ) (n : ℕ) (z : ℤ) → n < length bound → slice_get bound (length bound - 1 - n) ≡ Some z → bounds_in bound n ≡ z
bound_there bound n z h is = get_or-reverse bound n (pos 0) h ∙ get_or_from_slice_get bound (length bound - 1 - n) z (pos 0) is

pub bound_past : (bound : List ℤ) (n : ℕ) → length bound ≤ n → bounds_in bound n ≡ pos 0
bound_past bound n h = get_or_past (reverse bound) n (pos 0) (omega (arith, h, length-reverse bound))

pub ruleset bound_lines = (bound_there, bound_past)

-- one more bound variable
pub inside_pushed : (bound : List ℤ) (k : ℤ) → bounds_in (bound ++ k ∷ []) ≡ inside k (bounds_in bound)
inside_pushed bound k = λ i n. at_place n i
  where
    turned : reverse (bound ++ k ∷ []) ≡ k ∷ reverse bound
    turned = reverse-append bound (k ∷ [])

    at_place : (n : ℕ) → bounds_in (bound ++ k ∷ []) n ≡ inside k (bounds_in bound) n
    at_place zero = ap (λ (zs : List ℤ). get_or zs 0 (pos 0)) turned
    at_place (suc n) = ap (λ (zs : List ℤ). get_or zs (suc n) (pos 0)) turned

pub none_bound : bounds_in [] ≡ no_bounds
none_bound = refl

-- what was pushed is what is popped
pub popped : (before after : List ℤ) (k last : ℤ) → before ++ k ∷ [] ≡ after ++ last ∷ [] → after ≡ before
popped [] [] k last e = refl
popped [] (z ∷ []) k last e = absurd (cc)
popped [] (z ∷ y ∷ zs) k last e = absurd (cc)
popped (z ∷ []) [] k last e = absurd (cc)
popped (z ∷ y ∷ zs) [] k last e = absurd (cc)
popped (y ∷ before) (z ∷ after) k last e = ap₂ ◌∷◌ (sym (head e)) (popped before after k last (tail e))
  where
    head : y ∷ (before ++ k ∷ []) ≡ z ∷ (after ++ last ∷ []) → y ≡ z
    head h = cc

    tail : y ∷ (before ++ k ∷ []) ≡ z ∷ (after ++ last ∷ []) → before ++ k ∷ [] ≡ after ++ last ∷ []
    tail h = cc

-- whatever is popped, the variables from before are left
pub popped_is : (before middle after : List ℤ) (k : ℤ) (last : Option ℤ) → middle ≡ before ++ k ∷ []
    → MatchOption last ((middle ≡ []) × (after ≡ [])) (λ z. middle ≡ after ++ z ∷ []) → after ≡ before
popped_is before middle after k None is h = absurd (no_end before (sym is ∙ h.0))
  where
    no_end : (zs : List ℤ) → zs ++ k ∷ [] ≡ [] → ⊥
    no_end [] e = cc
    no_end (z ∷ zs) e = cc
popped_is before middle after k (Some z) is h = popped before after k z (sym is ∙ h)
