-- The labels of steps, one after the other, and which of them stand before.
use Rattle.std.proofs.Common.{◌≡◌, ℕ, ◌+◌, ◌<◌, Bool, true, false, not, cond, ◌||◌, ◌&&◌, List, [], ◌∷◌, ◌++◌, length, take, drop, drop-cons, get_or}
use Rattle.std.proofs.Common.{add-one, suc, refl, sym, ap, ◌∙◌, arith, append-nil, append_assoc}
use Rattle.std.specs.Prelude.{nat_eq}
use Rattle.std.specs.Ordering.{is_eq, nat_cmp}
use Rattle.std.specs.List.{AllByRecursion, IsDistinct}
use Rattle.std.specs.Set.{is_member}
use Rattle.std.specs.BTreeSet.{BTreeSet, contains, Updates}
use Rattle.std.proofs.lemmas.Bool.{not-true, not_from_false, and_parts, and_from, or_parts, or_from}
use Rattle.std.proofs.lemmas.Bool.Decides.{nat_tests}
use Rattle.std.proofs.lemmas.List.{take_more}
use Rattle.program_trees.specs.Claims.{ProofStepTree, step_labels, labels}
use Rattle.lk_claims.specs.Step.{steps_of}
use Rattle.item_checks.specs.Tests.{are_new}

labels-append : (xs ys : List (ProofStepTree ℕ)) → labels (steps_of (xs ++ ys)) ≡ labels (steps_of xs) ++ labels (steps_of ys)
labels-append [] ys = refl
labels-append (x ∷ xs) ys =
    ap (λ ls. step_labels x ++ ls) (labels-append xs ys) ∙ sym (append_assoc (step_labels x) (labels (steps_of xs)) (labels (steps_of ys)))

-- the labels of one step more
pub labels_more : (a b c : List ℕ) (trees all : List (ProofStepTree ℕ)) (tree : ProofStepTree ℕ) →
    all ≡ trees ++ tree ∷ [] → b ≡ a ++ labels (steps_of trees) → c ≡ b ++ step_labels tree → c ≡ a ++ labels (steps_of all)
labels_more a b c trees all tree more before next =
    next
    ∙ ap (λ ls. ls ++ step_labels tree) before
    ∙ append_assoc a (labels (steps_of trees)) (step_labels tree)
    ∙ ap (λ ls. a ++ (labels (steps_of trees) ++ ls)) (sym (append-nil (step_labels tree)))
    ∙ ap (λ ls. a ++ ls) (sym (labels-append trees (tree ∷ [])))
    ∙ ap (λ ts. a ++ labels (steps_of ts)) (sym more)

-- those of a block
pub block_labels : (a b c d : List ℕ) (label assumed : ℕ) (inner : List ℕ) →
    b ≡ a ++ label ∷ [] → c ≡ b ++ assumed ∷ [] → d ≡ c ++ inner → d ≡ a ++ (label ∷ assumed ∷ inner)
block_labels a b c d label assumed inner first second rest =
    rest
    ∙ ap (λ ls. ls ++ inner) second
    ∙ ap (λ ls. (ls ++ assumed ∷ []) ++ inner) first
    ∙ append_assoc (a ++ label ∷ []) (assumed ∷ []) inner
    ∙ append_assoc a (label ∷ []) (assumed ∷ inner)

-- ---- the numbers that stand before

-- behind some numbers, the last of which stands first
abbrev pub behind : List ℕ → List ℕ → List ℕ
behind before [] = before
behind before (n ∷ ns) = behind (n ∷ before) ns

-- The set has these numbers.
abbrev pub HasNumbers : BTreeSet ℕ → List ℕ → Type 0
HasNumbers set numbers = (n : ℕ) → contains nat_cmp set n ≡ is_member nat_eq numbers n

behind-last : (before : List ℕ) (xs : List ℕ) (x : ℕ) → behind before (xs ++ x ∷ []) ≡ x ∷ behind before xs
behind-last before [] x = refl
behind-last before (y ∷ ys) x = behind-last (y ∷ before) ys x

same_number : (k q : ℕ) → is_eq (nat_cmp k q) ≡ nat_eq q k
same_number k q = grind (arith, nat_tests)

either_with : (b there : Bool) → cond b true there ≡ (b || there)
either_with true there = refl
either_with false there = refl

pub numbers_at : (old new : BTreeSet ℕ) (numbers : List ℕ) (i : ℕ) (d : ℕ) →
    i < length numbers → HasNumbers old (behind [] (take i numbers)) → Updates nat_cmp old new (get_or numbers i d) true →
    HasNumbers new (behind [] (take (i + 1) numbers))
numbers_at old new numbers i d within has updates = λ n.
    let x = get_or numbers i d in
    updates.0 n
    ∙ either_with (is_eq (nat_cmp x n)) (contains nat_cmp old n)
    ∙ ap (λ b. b || contains nat_cmp old n) (same_number x n)
    ∙ ap (λ there. nat_eq n x || there) (has n)
    ∙ ap (λ ns. is_member nat_eq ns n) (sym (behind-last [] (take i numbers) x))
    ∙ ap (λ ls. is_member nat_eq (behind [] ls) n) (sym (take_more numbers i d within))

-- The number at a place is new: so it depends on those behind it. Where it is not, none of them counts.
pub new_at : (set : BTreeSet ℕ) (numbers : List ℕ) (i : ℕ) (d : ℕ) (new : Bool) →
    i < length numbers → HasNumbers set (behind [] (take i numbers)) → new ≡ not (contains nat_cmp set (get_or numbers i d)) →
    are_new (behind [] (take i numbers)) (drop i numbers) ≡ (new && are_new (behind [] (take (i + 1) numbers)) (drop (i + 1) numbers))
new_at set numbers i d new within has is =
    let x = get_or numbers i d in
    let before = behind [] (take i numbers) in
    ap (are_new before) (drop-cons numbers i d within)
    ∙ ap (λ there. not there && are_new (x ∷ before) (drop (suc i) numbers)) (sym (has x))
    ∙ ap (λ b. b && are_new (x ∷ before) (drop (suc i) numbers)) (sym is)
    ∙ ap (λ ls. new && are_new ls (drop (suc i) numbers)) (sym (behind-last [] (take i numbers) x) ∙ ap (behind []) (sym (take_more numbers i d within)))
    ∙ ap (λ n. new && are_new (behind [] (take (i + 1) numbers)) (drop n numbers)) (sym (add-one i))

-- ---- distinct numbers

flipped : (a b : ℕ) → nat_eq a b ≡ nat_eq b a
flipped a b = grind (arith, nat_tests)

-- none of these is among those before, with one more, which is none of these either
abbrev None : List ℕ → List ℕ → Type 0
None before ns = AllByRecursion (λ y. is_member nat_eq before y ≡ false) ns

parted : (x : ℕ) (before ns : List ℕ) → None (x ∷ before) ns → AllByRecursion (λ y. nat_eq x y ≡ false) ns × None before ns
parted x before [] h = (tt, tt)
parted x before (y ∷ ns) h =
    let p = or_parts (nat_eq y x) (is_member nat_eq before y) h.0 in
    let q = parted x before ns h.1 in
    ((flipped x y ∙ p.0, q.0), (p.1, q.1))

joined : (x : ℕ) (before ns : List ℕ) → AllByRecursion (λ y. nat_eq x y ≡ false) ns → None before ns → None (x ∷ before) ns
joined x before [] h k = tt
joined x before (y ∷ ns) h k = (or_from (nat_eq y x) (is_member nat_eq before y) (flipped y x ∙ h.0) k.0, joined x before ns h.1 k.1)

pub new_told : (before ns : List ℕ) → are_new before ns ≡ true → IsDistinct nat_eq ns × None before ns
unfolding IsDistinct
new_told before [] h = (tt, tt)
new_told before (n ∷ ns) h =
    let p = and_parts (not (is_member nat_eq before n)) (are_new (n ∷ before) ns) h in
    let q = new_told (n ∷ before) ns p.1 in
    let r = parted n before ns q.1 in
    ((r.0, q.0), (not-true (is_member nat_eq before n) p.0, r.1))

pub new_tested : (before ns : List ℕ) → IsDistinct nat_eq ns → None before ns → are_new before ns ≡ true
unfolding IsDistinct
new_tested before [] h k = refl
new_tested before (n ∷ ns) h k =
    and_from (not (is_member nat_eq before n)) (are_new (n ∷ before) ns) (not_from_false (is_member nat_eq before n) k.0)
    (new_tested (n ∷ before) ns h.1 (joined n before ns h.0 k.1))

pub none_before : (ns : List ℕ) → None [] ns
none_before [] = tt
none_before (n ∷ ns) = (refl, none_before ns)
