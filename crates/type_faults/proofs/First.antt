-- The first of several faults, told in turn and in any order.
use Rattle.std.proofs.Common.{◌≡◌, ℕ, Bool, true, false, cond, Option, Some, None, List, [], ◌∷◌, ◌++◌, refl, sym, ap, ◌∙◌, subst, true≢false, Ordering, Less, Equal, Greater, is_lt, is_gt, nat_cmp, append-nil}
use Rattle.std.specs.Ordering.{ordering_reverse, ordering_then}
use Rattle.std.specs.Cmp.Lexicographic.{slice_cmp}
use Rattle.std.proofs.lemmas.Cmp.{nat_list_cmp_total, upto}
use Rattle.std.proofs.lemmas.Map.Lookups.{exact_unsigned}
use Rattle.slang_tree.specs.declared.place.Place.{Place}
use Rattle.slang_tree.specs.declared.place.Fault.{Fault}
use Rattle.type_rules.specs.Faults.{comes_before, first_fault, first_with, position, precedes}
use Rattle.type_faults.specs.FirstFault.{told_of, with_first}
use Rattle.type_faults.specs.Laws.{FaultsAreToldInAnyOrder, FaultsAreToldInTurn, FirstStandsForAll}

-- ---- the order of positions

gt-reverse : (o : Ordering) → is_gt (ordering_reverse o) ≡ is_lt o
gt-reverse Less = refl
gt-reverse Equal = refl
gt-reverse Greater = refl

turned : (a b : List ℕ) → is_gt (slice_cmp nat_cmp b a) ≡ precedes a b
turned a b = ap is_gt (nat_list_cmp_total.antisymm b a) ∙ gt-reverse (slice_cmp nat_cmp a b)

none-trans : (a b c : List ℕ) → precedes a b ≡ false → precedes b c ≡ false → precedes a c ≡ false
none-trans a b c h k = sym (turned a c) ∙ upto nat_list_cmp_total c b a (turned b c ∙ k) (turned a b ∙ h)

is-Less : (o : Ordering) → is_lt o ≡ true → o ≡ Less
is-Less Less e = refl
is-Less Equal e = absurd (true≢false (sym e))
is-Less Greater e = absurd (true≢false (sym e))

trans : (a b c : List ℕ) → precedes a b ≡ true → precedes b c ≡ true → precedes a c ≡ true
trans a b c h k = ap is_lt (nat_list_cmp_total.trans a b c (is-Less _ h) (is-Less _ k))

lt-asymm : (o : Ordering) → is_lt o ≡ true → is_lt (ordering_reverse o) ≡ false
lt-asymm Less e = refl
lt-asymm Equal e = absurd (true≢false (sym e))
lt-asymm Greater e = absurd (true≢false (sym e))

asymm : (a b : List ℕ) → precedes a b ≡ true → precedes b a ≡ false
asymm a b h = ap is_lt (nat_list_cmp_total.antisymm b a) ∙ lt-asymm (slice_cmp nat_cmp a b) h

neither : (o : Ordering) → is_lt o ≡ false → is_lt (ordering_reverse o) ≡ false → o ≡ Equal
neither Less h k = absurd (true≢false h)
neither Equal h k = refl
neither Greater h k = absurd (true≢false k)

then-Equal : (r s : Ordering) → ordering_then r s ≡ Equal → (r ≡ Equal) × (s ≡ Equal)
then-Equal Less s e = absurd (true≢false (ap is_lt e))
then-Equal Equal s e = (refl, e)
then-Equal Greater s e = absurd (true≢false (ap is_gt e))

same-number : (m n : ℕ) → nat_cmp m n ≡ Equal → m ≡ n
same-number m n e = exact_unsigned m n e

-- Faults of one position are one fault.
same-fault : (a b : Fault) → comes_before a b ≡ false → comes_before b a ≡ false → a ≡ b
same-fault a b h k =
    let tied = neither (slice_cmp nat_cmp (position a) (position b)) h (sym (ap is_lt (nat_list_cmp_total.antisymm (position b) (position a))) ∙ k) in
    let line = then-Equal _ _ tied in
    let col = then-Equal _ _ line.1 in
    let code = then-Equal _ _ col.1 in
    let lines : a.place.line ≡ b.place.line = same-number _ _ line.0 in
    let cols : a.place.col ≡ b.place.col = same-number _ _ col.0 in
    let codes : a.code ≡ b.code = same-number _ _ code.0 in
    λ i. record { code = codes i; place = record { line = lines i; col = cols i } }

-- ---- the first of two faults

abbrev first_of : Fault → Fault → Fault
first_of a b = cond (comes_before b a) b a

first_of-first : (a b : Fault) (p : Bool) → comes_before b a ≡ p → first_of a b ≡ cond p b a
first_of-first a b p h = ap (λ t. cond t b a) h

-- the tests of a pair one way round and the other
comm-by : (a b : Fault) (p r : Bool) → comes_before b a ≡ p → comes_before a b ≡ r → cond p b a ≡ cond r a b
comm-by a b true true h k = absurd (true≢false (sym k ∙ asymm (position b) (position a) h))
comm-by a b true false h k = refl
comm-by a b false true h k = refl
comm-by a b false false h k = same-fault a b k h

comm : (a b : Fault) → first_of a b ≡ first_of b a
comm a b = comm-by a b (comes_before b a) (comes_before a b) refl refl

assoc-by : (a b c : Fault) (p q : Bool) → comes_before b a ≡ p → comes_before c b ≡ q → first_of (cond p b a) c ≡ first_of a (cond q c b)
assoc-by a b c true true h k =
    first_of-first b c true k ∙ sym (first_of-first a c true (trans (position c) (position b) (position a) k h))
assoc-by a b c true false h k = first_of-first b c false k ∙ sym (first_of-first a b true h)
assoc-by a b c false true h k = refl
assoc-by a b c false false h k =
    first_of-first a c false (none-trans (position c) (position b) (position a) k h) ∙ sym (first_of-first a b false h)

assoc : (a b c : Fault) → first_of (first_of a b) c ≡ first_of a (first_of b c)
assoc a b c = assoc-by a b c (comes_before b a) (comes_before c b) refl refl

-- ---- of several faults

first_with-append : (found : Fault) (xs ys : List Fault) → first_with (first_with found xs) ys ≡ first_with found (xs ++ ys)
first_with-append found [] ys = refl
first_with-append found (x ∷ xs) ys = first_with-append (first_of found x) xs ys

pub in_turn : FaultsAreToldInTurn
in_turn None [] ys = refl
in_turn None (x ∷ xs) ys = ap Some (first_with-append x xs ys)
in_turn (Some found) xs ys = ap Some (first_with-append found xs ys)

first_with-first : (found x : Fault) (xs : List Fault) → first_of found (first_with x xs) ≡ first_with (first_of found x) xs
first_with-first found x [] = refl
first_with-first found x (y ∷ ys) =
    first_with-first found (first_of x y) ys ∙ ap (λ f. first_with f ys) (sym (assoc found x y))

pub for_all : FirstStandsForAll
for_all None [] = refl
for_all None (x ∷ xs) = refl
for_all (Some found) [] = refl
for_all (Some found) (x ∷ xs) = ap Some (first_with-first found x xs)

-- two that may be there, in either order
either_way : (found p q : Option Fault) →
    with_first (with_first found (told_of p)) (told_of q) ≡ with_first (with_first found (told_of q)) (told_of p)
either_way found None None = refl
either_way None None (Some b) = refl
either_way (Some c) None (Some b) = refl
either_way None (Some a) None = refl
either_way (Some c) (Some a) None = refl
either_way None (Some a) (Some b) = ap Some (comm a b)
either_way (Some c) (Some a) (Some b) = ap Some (assoc c a b ∙ ap (first_of c) (comm a b) ∙ sym (assoc c b a))

pub in_any_order : FaultsAreToldInAnyOrder
in_any_order found xs ys =
    sym (in_turn found xs ys)
    ∙ sym (for_all (with_first found xs) ys)
    ∙ ap (λ before. with_first before (told_of (first_fault ys))) (sym (for_all found xs))
    ∙ either_way found (first_fault xs) (first_fault ys)
    ∙ ap (λ before. with_first before (told_of (first_fault xs))) (for_all found ys)
    ∙ for_all (with_first found ys) xs
    ∙ in_turn found ys xs
