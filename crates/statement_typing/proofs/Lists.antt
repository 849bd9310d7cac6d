-- Lists each of whose members is new, and members of lists.
use Rattle.std.proofs.Common.{◌≡◌, inl, inr, ℕ, zero, suc, ◌+◌, Bool, true, false, not, bytes_eq, List, [], ◌∷◌, ◌++◌, map, length, slice_get, Some, None, refl, sym, ◌∙◌, subst, arith}
use Rattle.std.specs.List.{AllByRecursion, IsDistinct, list_all, list_any}
use Rattle.std.specs.Set.{is_member}
use Rattle.std.proofs.lemmas.Bool.{true≢false, and_parts, or_parts, not-true}
use Rattle.std.proofs.lemmas.Slice.Eq.{bytes_eq-Decides}
use Rattle.slang_tree.specs.declared.place.Fault.{Fault}
use Rattle.type_rules.specs.Faults.{unless}
use Rattle.claim_typing.proofs.Parts.{unless-nil}
use Rattle.statement_typing.specs.Around.{Among}

pub same_bytes : (s t : List ℕ) → bytes_eq s t ≡ true → s ≡ t
same_bytes s t h = (bytes_eq-Decides s t).0 h

pub bytes_itself : (s : List ℕ) → bytes_eq s s ≡ true
bytes_itself s = (bytes_eq-Decides s s).1 refl

pub all_among : {A : Type 0} (p : A → Bool) (xs : List A) (a : A) → Among a xs → list_all p xs ≡ true → p a ≡ true
all_among p [] a h all = absurd h
all_among p (x ∷ xs) a (inl e) all = subst (λ y. p y ≡ true) e (and_parts (p x) (list_all p xs) all).0
all_among p (x ∷ xs) a (inr h) all = all_among p xs a h (and_parts (p x) (list_all p xs) all).1

pub each_mapped : {A B : Type 0} (P : B → Type 0) (f : A → B) (xs : List A) → AllByRecursion (λ x. P (f x)) xs → AllByRecursion P (map f xs)
each_mapped P f [] h = tt
each_mapped P f (x ∷ xs) h = (h.0, each_mapped P f xs h.1)

pub each_weaker : {A : Type 0} (P Q : A → Type 0) → ((a : A) → P a → Q a) → (xs : List A) → AllByRecursion P xs → AllByRecursion Q xs
each_weaker P Q f [] h = tt
each_weaker P Q f (x ∷ xs) h = (f x h.0, each_weaker P Q f xs h.1)

pub is_there : {A : Type 0} (xs : List A) (k : ℕ) (a : A) → slice_get xs k ≡ Some a → Among a xs
is_there [] k a h = absurd (let e : None ≡ Some a = h in cc)
is_there (x ∷ xs) zero a h = inl (let e : Some x ≡ Some a = h in cc)
is_there (x ∷ xs) (suc k) a h = inr (is_there xs k a h)

-- ---- each member is new

-- No member is equal to one that stands before it, or to one of these.
abbrev pub AreNew : {K : Type 0} → (K → K → Bool) → List K → List K → Type 0
AreNew eq before [] = Unit {0}
AreNew eq before (x ∷ xs) = (is_member eq before x ≡ false) × AreNew eq (x ∷ before) xs

none_equal : {K : Type 0} (eq : K → K → Bool) (x b : K) (before : List K) → Among b before → list_any (eq x) before ≡ false → eq x b ≡ false
none_equal eq x b [] h e = absurd h
none_equal eq x b (c ∷ before) (inl same) e = subst (λ d. eq x d ≡ false) same (or_parts (eq x c) (list_any (eq x) before) e).0
none_equal eq x b (c ∷ before) (inr h) e = none_equal eq x b before h (or_parts (eq x c) (list_any (eq x) before) e).1

new_apart : {K : Type 0} (eq : K → K → Bool) → ((a b : K) → eq a b ≡ eq b a) → (b : K) (before xs : List K) → Among b before → AreNew eq before xs →
    AllByRecursion (λ y. eq b y ≡ false) xs
new_apart eq flips b before [] h new = tt
new_apart eq flips b before (x ∷ xs) h new = (flips b x ∙ none_equal eq x b before h new.0, new_apart eq flips b (x ∷ before) xs (inr h) new.1)

pub new_distinct : {K : Type 0} (eq : K → K → Bool) → ((a b : K) → eq a b ≡ eq b a) → (before xs : List K) → AreNew eq before xs → IsDistinct eq xs
unfolding IsDistinct
new_distinct eq flips before [] new = tt
new_distinct eq flips before (x ∷ xs) new = (new_apart eq flips x (x ∷ before) xs (inl refl) new.1, new_distinct eq flips (x ∷ before) xs new.1)

pub unless_not : (holds : Bool) (found : Fault) → unless (not holds) found ≡ [] → holds ≡ false
unless_not holds found h = not-true holds (unless-nil (not holds) found h)

flips_by : {K : Type 0} (eq : K → K → Bool) → ((a b : K) → eq a b ≡ true → a ≡ b) → ((a : K) → eq a a ≡ true) → (a b : K) (x y : Bool) → eq a b ≡ x → eq b a ≡ y → x ≡ y
flips_by eq same itself a b true true h k = refl
flips_by eq same itself a b false false h k = refl
flips_by eq same itself a b true false h k = absurd (true≢false (sym (subst (λ c. eq c a ≡ true) (same a b h) (itself a)) ∙ k))
flips_by eq same itself a b false true h k = absurd (true≢false (sym (subst (λ c. eq c b ≡ true) (same b a k) (itself b)) ∙ h))

pub flips : {K : Type 0} (eq : K → K → Bool) → ((a b : K) → eq a b ≡ true → a ≡ b) → ((a : K) → eq a a ≡ true) → (a b : K) → eq a b ≡ eq b a
flips eq same itself a b = flips_by eq same itself a b (eq a b) (eq b a) refl refl

pub bytes_flip : (s t : List ℕ) → bytes_eq s t ≡ bytes_eq t s
bytes_flip = flips bytes_eq same_bytes bytes_itself

-- ---- parts of a list

pub get_front : {A : Type 0} (xs ys : List A) (k : ℕ) (a : A) → slice_get xs k ≡ Some a → slice_get (xs ++ ys) k ≡ Some a
get_front [] ys k a h = absurd (let e : None ≡ Some a = h in cc)
get_front (x ∷ xs) ys zero a h = h
get_front (x ∷ xs) ys (suc k) a h = get_front xs ys k a h

pub get_behind : {A : Type 0} (xs ys : List A) (k : ℕ) (a : A) → slice_get ys k ≡ Some a → slice_get (xs ++ ys) (length xs + k) ≡ Some a
get_behind {A = A} [] ys k a h = subst (λ n. slice_get ys n ≡ Some a) (let e : k ≡ length {A = A} [] + k = omega arith in e) h
get_behind {A = A} (x ∷ xs) ys k a h =
    subst (λ n. slice_get (x ∷ xs ++ ys) n ≡ Some a) (let e : suc (length xs + k) ≡ length (x ∷ xs) + k = omega arith in e) (get_behind xs ys k a h)
