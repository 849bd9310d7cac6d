-- The labels of steps, one after the other, and which of them stand before.
use Rattle.std.proofs.Common.{◌≡◌, ℕ, ◌+◌, ◌<◌, Bool, true, false, not, cond, ◌||◌, Option, List, [], ◌∷◌, ◌++◌, length, take, get_or, refl, sym, ap, ◌∙◌, arith, append-nil, append_assoc}
use Rattle.std.specs.Prelude.{nat_eq}
use Rattle.std.specs.Ordering.{is_eq, nat_cmp}
use Rattle.std.specs.Set.{is_member}
use Rattle.std.specs.BTreeSet.{BTreeSet, contains, Updates}
use Rattle.std.proofs.lemmas.Bool.Decides.{nat_tests}
use Rattle.std.proofs.lemmas.List.{take_more}
use Rattle.slang_tree.specs.declared.place.Fault.{Fault}
use Rattle.slang_tree.specs.declared.statement.Label.{Label}
use Rattle.slang_tree.specs.StmtTree.{StepTree, steps_of}
use Rattle.type_rules.specs.Faults.{duplicate_name, unless}
use Rattle.type_rules.specs.Steps.{labels_of, labels_of_step, repeated_labels}
use Rattle.type_faults.specs.FirstFault.{with_first}
use Rattle.type_faults.proofs.First.{in_turn}

labels-append : (xs ys : List StepTree) → labels_of (steps_of (xs ++ ys)) ≡ labels_of (steps_of xs) ++ labels_of (steps_of ys)
labels-append [] ys = refl
labels-append (x ∷ xs) ys =
    ap (λ ls. labels_of_step x ++ ls) (labels-append xs ys)
    ∙ sym (append_assoc (labels_of_step x) (labels_of (steps_of xs)) (labels_of (steps_of ys)))

-- the labels of one step more
pub labels_more : (a b c : List Label) (trees all : List StepTree) (tree : StepTree) →
    all ≡ trees ++ tree ∷ [] → b ≡ a ++ labels_of (steps_of trees) → c ≡ b ++ labels_of_step tree → c ≡ a ++ labels_of (steps_of all)
labels_more a b c trees all tree more before next =
    next
    ∙ ap (λ ls. ls ++ labels_of_step tree) before
    ∙ append_assoc a (labels_of (steps_of trees)) (labels_of_step tree)
    ∙ ap (λ ls. a ++ (labels_of (steps_of trees) ++ ls)) (sym (append-nil (labels_of_step tree)))
    ∙ ap (λ ls. a ++ ls) (sym (labels-append trees (tree ∷ [])))
    ∙ ap (λ ts. a ++ labels_of (steps_of ts)) (sym more)

-- those of a block
pub block_labels : (a b c d : List Label) (label assumed : Label) (inner : List Label) →
    b ≡ a ++ label ∷ [] → c ≡ b ++ assumed ∷ [] → d ≡ c ++ inner → d ≡ a ++ (label ∷ assumed ∷ inner)
block_labels a b c d label assumed inner first second rest =
    rest
    ∙ ap (λ ls. ls ++ inner) second
    ∙ ap (λ ls. (ls ++ assumed ∷ []) ++ inner) first
    ∙ append_assoc (a ++ label ∷ []) (assumed ∷ []) inner
    ∙ append_assoc a (label ∷ []) (assumed ∷ inner)

-- ---- the numbers that stand before

-- behind some labels, the last of which stands first
abbrev pub numbers_behind : List ℕ → List Label → List ℕ
numbers_behind before [] = before
numbers_behind before (label ∷ labels) = numbers_behind (label.number ∷ before) labels

-- The set has these numbers.
abbrev pub HasNumbers : BTreeSet ℕ → List ℕ → Type 0
HasNumbers set numbers = (n : ℕ) → contains nat_cmp set n ≡ is_member nat_eq numbers n

abbrev told_at : List ℕ → Label → List Fault
told_at before label = unless (not (is_member nat_eq before label.number)) (duplicate_name label.place)

behind-last : (before : List ℕ) (xs : List Label) (x : Label) → numbers_behind before (xs ++ x ∷ []) ≡ x.number ∷ numbers_behind before xs
behind-last before [] x = refl
behind-last before (y ∷ ys) x = behind-last (y.number ∷ before) ys x

repeated-last : (before : List ℕ) (xs : List Label) (x : Label) →
    repeated_labels before (xs ++ x ∷ []) ≡ repeated_labels before xs ++ told_at (numbers_behind before xs) x
repeated-last before [] x = append-nil (told_at before x)
repeated-last before (y ∷ ys) x =
    ap (λ fs. told_at before y ++ fs) (repeated-last (y.number ∷ before) ys x)
    ∙ sym (append_assoc (told_at before y) (repeated_labels (y.number ∷ before) ys) (told_at (numbers_behind (y.number ∷ before) ys) x))

-- one label more
repeated_more : (a b c : Option Fault) (set : BTreeSet ℕ) (labels all : List Label) (label : Label) (new : Bool) →
    all ≡ labels ++ label ∷ [] → b ≡ with_first a (repeated_labels [] labels) → HasNumbers set (numbers_behind [] labels) →
    new ≡ not (contains nat_cmp set label.number) → c ≡ with_first b (unless new (duplicate_name label.place)) →
    c ≡ with_first a (repeated_labels [] all)
repeated_more a b c set labels all label new more before has is next =
    next
    ∙ ap (λ holds. with_first b (unless holds (duplicate_name label.place))) is
    ∙ ap (λ there. with_first b (unless (not there) (duplicate_name label.place))) (has label.number)
    ∙ ap (λ found. with_first found (told_at (numbers_behind [] labels) label)) before
    ∙ in_turn a (repeated_labels [] labels) (told_at (numbers_behind [] labels) label)
    ∙ ap (with_first a) (sym (repeated-last [] labels label))
    ∙ ap (λ ls. with_first a (repeated_labels [] ls)) (sym more)

same_number : (k q : ℕ) → is_eq (nat_cmp k q) ≡ nat_eq q k
same_number k q = grind (arith, nat_tests)

either_with : (b there : Bool) → cond b true there ≡ (b || there)
either_with true there = refl
either_with false there = refl

numbers_more : (old new : BTreeSet ℕ) (labels all : List Label) (label : Label) →
    all ≡ labels ++ label ∷ [] → HasNumbers old (numbers_behind [] labels) → Updates nat_cmp old new label.number true →
    HasNumbers new (numbers_behind [] all)
numbers_more old new labels all label more has updates = λ n.
    updates.0 n
    ∙ either_with (is_eq (nat_cmp label.number n)) (contains nat_cmp old n)
    ∙ ap (λ b. b || contains nat_cmp old n) (same_number label.number n)
    ∙ ap (λ there. nat_eq n label.number || there) (has n)
    ∙ ap (λ ns. is_member nat_eq ns n) (sym (behind-last [] labels label))
    ∙ ap (λ ls. is_member nat_eq (numbers_behind [] ls) n) (sym more)

-- the label at a place, behind those before it
pub repeated_at : (a b c : Option Fault) (set : BTreeSet ℕ) (labels : List Label) (i : ℕ) (d : Label) (new : Bool) →
    i < length labels → b ≡ with_first a (repeated_labels [] (take i labels)) → HasNumbers set (numbers_behind [] (take i labels)) →
    new ≡ not (contains nat_cmp set (get_or labels i d).number) → c ≡ with_first b (unless new (duplicate_name (get_or labels i d).place)) →
    c ≡ with_first a (repeated_labels [] (take (i + 1) labels))
repeated_at a b c set labels i d new within before has is next =
    repeated_more a b c set (take i labels) (take (i + 1) labels) (get_or labels i d) new (take_more labels i d within) before has is next

pub numbers_at : (old new : BTreeSet ℕ) (labels : List Label) (i : ℕ) (d : Label) →
    i < length labels → HasNumbers old (numbers_behind [] (take i labels)) → Updates nat_cmp old new (get_or labels i d).number true →
    HasNumbers new (numbers_behind [] (take (i + 1) labels))
numbers_at old new labels i d within has updates =
    numbers_more old new (take i labels) (take (i + 1) labels) (get_or labels i d) (take_more labels i d within) has updates
