-- Lists all of whose members are so.
use Rattle.std.proofs.Common.{◌≡◌, ℕ, zero, suc, ◌+◌, ◌<◌, ◌≤◌, Bool, true, List, [], ◌∷◌, map, length, take, get_or, Some, arith}
use Rattle.std.specs.Prelude.{slice_get}
use Rattle.std.specs.List.{AllByRecursion, list_all, range_with_len}
use Rattle.std.proofs.lemmas.Bool.{and_parts}
use Rattle.numbering_laws.proofs.Places.{none≢some}

pub all_map : {A B : Type 0} (P : A → Type 0) (Q : B → Type 0) (f : A → B) → ((a : A) → P a → Q (f a)) → (xs : List A) → AllByRecursion P xs
    → AllByRecursion Q (map f xs)
all_map P Q f each [] h = tt
all_map P Q f each (x ∷ xs) h = (each x h.0, all_map P Q f each xs h.1)

pub all_tested : {A : Type 0} (test : A → Bool) (Q : A → Type 0) → ((a : A) → test a ≡ true → Q a) → (xs : List A) → list_all test xs ≡ true
    → AllByRecursion Q xs
all_tested test Q each [] h = tt
all_tested test Q each (x ∷ xs) h = let p = and_parts _ _ h in (each x p.0, all_tested test Q each xs p.1)

pub all_got_or : {A : Type 0} (P : A → Type 0) (xs : List A) (i : ℕ) (d : A) → AllByRecursion P xs → i < length xs → P (get_or xs i d)
all_got_or P [] i d h l = absurd (omega (arith, l))
all_got_or P (x ∷ xs) zero d h l = h.0
all_got_or P (x ∷ xs) (suc i) d h l = all_got_or P xs i d h.1 (omega (arith, l))

pub all_or_past : {A : Type 0} (P : A → Type 0) (xs : List A) (i : ℕ) (d : A) → AllByRecursion P xs → P d → P (get_or xs i d)
all_or_past P [] i d h p = p
all_or_past P (x ∷ xs) zero d h p = h.0
all_or_past P (x ∷ xs) (suc i) d h p = all_or_past P xs i d h.1 p

-- what stands in a front stands in the list
pub taken : {A : Type 0} (n : ℕ) (xs : List A) (i : ℕ) (x : A) → slice_get (take n xs) i ≡ Some x → slice_get xs i ≡ Some x
taken zero xs i x e = absurd (none≢some e)
taken (suc n) [] i x e = e
taken (suc n) (y ∷ xs) zero x e = e
taken (suc n) (y ∷ xs) (suc i) x e = taken n xs i x e

pub in_range : (start count bound : ℕ) → start + count ≤ bound → AllByRecursion (λ n. n < bound) (range_with_len start count)
in_range start zero bound l = tt
in_range start (suc count) bound l = (omega (arith, l), in_range (start + 1) count bound (omega (arith, l)))
