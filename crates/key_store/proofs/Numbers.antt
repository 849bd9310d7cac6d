-- Keys by their bytes.
use Rattle.std.proofs.Common.{◌≡◌, ℕ, zero, suc, ◌+◌, ◌<◌, Bool, true, false, cond, ◌||◌, Option, Some, None, List, [], ◌∷◌, ◌++◌, map, length, take, get_or, refl, sym, ap, ◌∙◌, true≢false, arith}
use Rattle.std.specs.Prelude.{Vec, nat_lt, not, slice_get}
use Rattle.std.specs.Option.{option_map}
use Rattle.std.specs.List.{AllByRecursion, IsDistinct, list_any, position, position_or_len}
use Rattle.std.specs.Cmp.Lexicographic.{nat_list_eq_equiv}
use Rattle.std.proofs.lemmas.List.Quantifiers.{position-Some}
use Rattle.std.proofs.lemmas.Map.Keys.{IsDistinct-push}
use Rattle.std.proofs.lemmas.Option.{slice_get-get_or}
use Rattle.std.specs.Str.{bytes_eq}
use Rattle.std.proofs.lemmas.Slice.Eq.{bytes_eq-Decides}
use Rattle.indexmap.specs.IndexSet.{insert_key}
use Rattle.key_store.specs.Keys.{AreDistinct, is_kept, number_of, with_key}
use Rattle.key_store.specs.Inside.{bytes_of, bytes_of_all}

-- whether a key of the store has these bytes
abbrev pub is_key : {Z : Type 0} → List ℕ → Vec ℕ Z → Bool
is_key key k = bytes_eq key k.items

pub any_bytes : {Z : Type 0} (key : List ℕ) (ks : List (Vec ℕ Z)) → list_any (is_key key) ks ≡ is_kept (bytes_of_all ks) key
any_bytes key [] = refl
any_bytes key (k ∷ ks) = ap (λ b. bytes_eq key k.items || b) (any_bytes key ks)

pub place_of_bytes : {Z : Type 0} (key : List ℕ) (ks : List (Vec ℕ Z)) → position_or_len (is_key key) ks ≡ number_of (bytes_of_all ks) key
place_of_bytes key [] = refl
place_of_bytes key (k ∷ ks) = ap (λ n. cond (not (bytes_eq key k.items)) (1 + n) 0) (place_of_bytes key ks)

pub length_bytes : {Z : Type 0} (ks : List (Vec ℕ Z)) → length (bytes_of_all ks) ≡ length ks
length_bytes [] = refl
length_bytes (k ∷ ks) = ap suc (length_bytes ks)

pub take_bytes : {Z : Type 0} (count : ℕ) (ks : List (Vec ℕ Z)) → bytes_of_all (take count ks) ≡ take count (bytes_of_all ks)
take_bytes zero ks = refl
take_bytes (suc count) [] = refl
take_bytes (suc count) (k ∷ ks) = ap (λ l. k.items ∷ l) (take_bytes count ks)

append_bytes : {Z : Type 0} (ks : List (Vec ℕ Z)) (k : Vec ℕ Z) → bytes_of_all (ks ++ k ∷ []) ≡ bytes_of_all ks ++ k.items ∷ []
append_bytes [] k = refl
append_bytes (j ∷ ks) k = ap (λ l. j.items ∷ l) (append_bytes ks k)

-- a key of other bytes goes last
pub added : {Z : Type 0} (key : List ℕ) (k : Vec ℕ Z) (ks : List (Vec ℕ Z)) → k.items ≡ key
    → bytes_of_all (insert_key (λ a b. bytes_eq a.items b.items) ks k) ≡ with_key (bytes_of_all ks) key
added {Z} key k ks is =
    by (list_any (is_key k.items) ks)
    ∙ ap (λ b. cond b (bytes_of_all ks) (bytes_of_all ks ++ k.items ∷ [])) (any_bytes k.items ks) ∙ ap (λ l. with_key (bytes_of_all ks) l) is
  where
    by : (b : Bool) → bytes_of_all (cond b ks (ks ++ k ∷ [])) ≡ cond b (bytes_of_all ks) (bytes_of_all ks ++ k.items ∷ [])
    by true = refl
    by false = append_bytes ks k

-- ---- the place of a key

pub position_bytes : {Z : Type 0} (key : List ℕ) (ks : List (Vec ℕ Z)) → position (is_key key) ks ≡ position (bytes_eq key) (bytes_of_all ks)
position_bytes key ks =
    ap (λ n. cond (nat_lt n (length ks)) (Some n) None) (place_of_bytes key ks)
    ∙ ap (λ m. cond (nat_lt (number_of (bytes_of_all ks) key) m) (Some (number_of (bytes_of_all ks) key)) None) (sym (length_bytes ks))

or_true : (a b : Bool) → b ≡ true → (a || b) ≡ true
or_true true b h = refl
or_true false b h = h

any_at : {X : Type 0} (p : X → Bool) (xs : List X) (i : ℕ) (d : X) → i < length xs → p (get_or xs i d) ≡ true → list_any p xs ≡ true
any_at p [] i d h k = absurd (omega arith)
any_at p (x ∷ xs) zero d h k = ap (λ b. b || list_any p xs) k
any_at p (x ∷ xs) (suc i) d h k = or_true (p x) (list_any p xs) (any_at p xs i d (omega arith) k)

place_is : (b : Bool) (m n : ℕ) → Some n ≡ cond b (Some m) None → n ≡ m
place_is true m n h = cc (h)
place_is false m n h = cc (h)

pub kept_there : (keys : List (List ℕ)) (key : List ℕ) (n : ℕ) → Some n ≡ position (bytes_eq key) keys
    → (n ≡ number_of keys key) × (slice_get keys n ≡ Some key) × (is_kept keys key ≡ true)
kept_there keys key n h =
    let found = position-Some (bytes_eq key) keys n [] (sym h) in
    let same : key ≡ get_or keys n [] = (bytes_eq-Decides key (get_or keys n [])).0 found.1 in (
      place_is (nat_lt (number_of keys key) (length keys)) (number_of keys key) n h,
      slice_get-get_or keys n [] found.0 ∙ ap Some (sym same),
      any_at (bytes_eq key) keys n [] found.0 found.1,
    )

later : (k : List ℕ) (ks : List (List ℕ)) (key : List ℕ) (b : Bool) → cond b (k ∷ ks) (k ∷ ks ++ key ∷ []) ≡ k ∷ cond b ks (ks ++ key ∷ [])
later k ks key true = refl
later k ks key false = refl

behind_first : (k : List ℕ) (ks : List (List ℕ)) (key : List ℕ) (b : Bool) → bytes_eq key k ≡ b → slice_get (with_key ks key) (number_of ks key) ≡ Some key
    → slice_get (cond (b || is_kept ks key) (k ∷ ks) (k ∷ ks ++ key ∷ [])) (cond (not b) (1 + number_of ks key) 0) ≡ Some key
behind_first k ks key true h rest = ap Some (sym ((bytes_eq-Decides key k).0 h))
behind_first k ks key false h rest =
    let next : 1 + number_of ks key ≡ suc (number_of ks key) = omega arith in
    ap (λ n. slice_get (cond (is_kept ks key) (k ∷ ks) (k ∷ ks ++ key ∷ [])) n) next
    ∙ ap (λ l. slice_get l (suc (number_of ks key))) (later k ks key (is_kept ks key)) ∙ rest

pub behind : (keys : List (List ℕ)) (key : List ℕ) → slice_get (with_key keys key) (number_of keys key) ≡ Some key
behind [] key = refl
behind (k ∷ ks) key = behind_first k ks key (bytes_eq key k) refl (behind ks key)

-- ---- distinct keys

pub distinct_with : (keys : List (List ℕ)) (key : List ℕ) → AreDistinct keys → AreDistinct (with_key keys key)
distinct_with keys key h = by (is_kept keys key) refl where
  by : (b : Bool) → is_kept keys key ≡ b → AreDistinct (cond b keys (keys ++ key ∷ []))
  by true e = h
  by false e = IsDistinct-push nat_list_eq_equiv keys key h e

pub distinct_none : AreDistinct []
unfolding IsDistinct
distinct_none = tt

all_take : {X : Type 0} (P : X → Type 0) (count : ℕ) (xs : List X) → AllByRecursion P xs → AllByRecursion P (take count xs)
all_take P zero xs h = tt
all_take P (suc count) [] h = tt
all_take P (suc count) (x ∷ xs) h = (h.0, all_take P count xs h.1)

pub distinct_take : (count : ℕ) (keys : List (List ℕ)) → AreDistinct keys → AreDistinct (take count keys)
unfolding IsDistinct
distinct_take zero keys h = tt
distinct_take (suc count) [] h = tt
distinct_take (suc count) (k ∷ ks) h = (all_take (λ y. bytes_eq k y ≡ false) count ks h.0, distinct_take count ks h.1)
