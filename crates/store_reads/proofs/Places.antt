-- Trees part by part, and the marks of the parts.
use Rattle.std.proofs.Common.{◌≡◌, ◌⊎◌, inl, inr, ℕ, zero, suc, ◌<◌, ◌≤◌, ◌+◌, List, [], ◌∷◌, ◌++◌, map, length, get_or, slice_get, cond, Bool, true, false, not, ◌&&◌, ◌||◌, Option, Some, None, refl, sym, ap, ap₂, ◌∙◌, subst, arith}
use Rattle.std.specs.List.{All, AllByRecursion, list_all}
use Rattle.std.specs.Option.{option_map, is_some}
use Rattle.std.proofs.lemmas.Bool.{cases_lt, and_parts}
use Rattle.std.proofs.lemmas.List.{get_or_push, get_or_append_left, length_push, get_or_default}
use Rattle.std.proofs.lemmas.Option.{slice_get-get_or}
use Rattle.std.proofs.lemmas.List.Elements.{All-head, All-tail, All-from_recursion}
use Rattle.slang_values.specs.Tree.{Tree, literal, truth_literal, name, bound, unary, binary, update, quantified, listed, Trees, no_trees, tree_then, parts, tree_list}
use Rattle.slang_values.specs.declared.operators.Unary.{Unary}
use Rattle.term_nodes.specs.declared.node.Node.{Node}
use Rattle.term_store.specs.Store.{tree_at, Grows}
use Rattle.term_store.proofs.Stores.{Grows-tree_at, Grows-length}
use Rattle.store_reads.specs.declared.marks.Mark.{Mark}
use Rattle.store_reads.specs.Marks.{IsMarkOf, AreMarked, HaveMarks, mark_at, all_marked, marked_place, IsMarkedPart}
use Rattle.store_reads.specs.Written.{unary_stays, top_stays, stays, all_stay, first_place, outer_parts, reads_written, has_read, some_has_read, place_of_read}

-- ---- the first place

module _ {X : Type 0} (p : X → Bool) where
  first_here : (x : X) (xs : List X) → p x ≡ true → first_place p (x ∷ xs) ≡ Some 0
  first_here x xs e = ap (λ b. cond b (Some 0) (option_map suc (first_place p xs))) e

  first_later : (x : X) (xs : List X) → p x ≡ false → first_place p (x ∷ xs) ≡ option_map suc (first_place p xs)
  first_later x xs e = ap (λ b. cond b (Some 0) (option_map suc (first_place p xs))) e

  pub first_place-none : (xs : List X) → ((k : ℕ) (d : X) → k < length xs → p (get_or xs k d) ≡ false) → first_place p xs ≡ None
  first_place-none [] h = refl
  first_place-none (x ∷ xs) h =
      first_later x xs (h zero x (omega arith)) ∙ ap (option_map suc) (first_place-none xs (λ k d l. h (suc k) d (omega arith)))

  pub first_place-found : (xs : List X) (i : ℕ) (d : X) → i < length xs → p (get_or xs i d) ≡ true → ((k : ℕ) → k < i → p (get_or xs k d) ≡ false) → first_place p xs ≡ Some i
  first_place-found [] i d l e h = absurd (omega arith)
  first_place-found (x ∷ xs) zero d l e h = first_here x xs e
  first_place-found (x ∷ xs) (suc i) d l e h =
      first_later x xs (h zero (omega arith)) ∙ ap (option_map suc) (first_place-found xs i d (omega arith) e (λ k m. h (suc k) (omega arith)))

same_places : {X Y : Type 0} (p : X → Bool) (q : Y → Bool) (f : X → Y) (xs : List X) → AllByRecursion (λ x. p x ≡ q (f x)) xs → first_place p xs ≡ first_place q (map f xs)
same_places p q f [] h = refl
same_places p q f (x ∷ xs) h = ap₂ (λ b o. cond b (Some 0) (option_map suc o)) h.0 (same_places p q f xs h.1)

same_all : {X Y : Type 0} (p : X → Bool) (q : Y → Bool) (f : X → Y) (xs : List X) → AllByRecursion (λ x. p x ≡ q (f x)) xs → list_all p xs ≡ list_all q (map f xs)
same_all p q f [] h = refl
same_all p q f (x ∷ xs) h = ap₂ (λ a b. a && b) h.0 (same_all p q f xs h.1)

-- ---- tests of all

pub all_pass : {X : Type 0} (p : X → Bool) (xs : List X) → ((k : ℕ) (d : X) → k < length xs → p (get_or xs k d) ≡ true) → list_all p xs ≡ true
all_pass p [] h = refl
all_pass p (x ∷ xs) h = ap₂ (λ a b. a && b) (h zero x (omega arith)) (all_pass p xs (λ k d l. h (suc k) d (omega arith)))

and_false : (a : Bool) → (a && false) ≡ false
and_false true = refl
and_false false = refl

pub one_fails : {X : Type 0} (p : X → Bool) (xs : List X) (i : ℕ) (d : X) → i < length xs → p (get_or xs i d) ≡ false → list_all p xs ≡ false
one_fails p [] i d l e = absurd (omega arith)
one_fails p (x ∷ xs) zero d l e = ap (λ a. a && list_all p xs) e
one_fails p (x ∷ xs) (suc i) d l e = ap (λ b. p x && b) (one_fails p xs i d (omega arith) e) ∙ and_false (p x)

-- ---- trees by their parts

and_true : (a : Bool) → (a && true) ≡ a
and_true true = refl
and_true false = refl

stays-list : (ts : Trees ℕ) → all_stay ts ≡ list_all stays (tree_list ts)
stays-list no_trees = refl
stays-list (tree_then t ts) = ap (λ b. stays t && b) (stays-list ts)

pub stays-parts : (t : Tree ℕ) → stays t ≡ (top_stays t && list_all stays (parts t))
stays-parts (literal z) = refl
stays-parts (truth_literal b) = refl
stays-parts (name n) = refl
stays-parts (bound n) = refl
stays-parts (unary op a) = ap (λ b. unary_stays op a && b) (sym (and_true (stays a)))
stays-parts (binary op a b) = ap (λ c. stays a && c) (sym (and_true (stays b)))
stays-parts (update a i x) = ap (λ c. stays a && (stays i && c)) (sym (and_true (stays x)))
stays-parts (quantified q low high body) = ap (λ c. stays low && (stays high && c)) (sym (and_true (stays body)))
stays-parts (listed l ts) = stays-list ts

two_read : (a b c : Bool) → ((a || b) || c) ≡ (c || is_some (cond a (Some 0) (option_map suc (cond b (Some 0) (option_map suc None)))))
two_read true true true = refl
two_read true true false = refl
two_read true false true = refl
two_read true false false = refl
two_read false true true = refl
two_read false true false = refl
two_read false false true = refl
two_read false false false = refl

one_reads : (a : Bool) → a ≡ is_some (cond a (Some 0) (option_map suc None))
one_reads true = refl
one_reads false = refl

range_reads : (a b : Bool) → (a || b) ≡ is_some (cond a (Some 0) (option_map suc (cond b (Some 0) (option_map suc None))))
range_reads true b = refl
range_reads false true = refl
range_reads false false = refl

three_read : (a b c : Bool) → (a || (b || c)) ≡ is_some (cond a (Some 0) (option_map suc (cond b (Some 0) (option_map suc (cond c (Some 0) (option_map suc None))))))
three_read true b c = refl
three_read false true c = refl
three_read false false true = refl
three_read false false false = refl

suc_some : (o : Option ℕ) → is_some (option_map suc o) ≡ is_some o
suc_some None = refl
suc_some (Some k) = refl

first_or : (a : Bool) (o : Option ℕ) (b : Bool) → b ≡ is_some o → (a || b) ≡ is_some (cond a (Some 0) (option_map suc o))
first_or true o b e = refl
first_or false o b e = e ∙ sym (suc_some o)

reads-list : (ts : Trees ℕ) → some_has_read ts ≡ is_some (first_place has_read (tree_list ts))
reads-list no_trees = refl
reads-list (tree_then t ts) = first_or (has_read t) (first_place has_read (tree_list ts)) (some_has_read ts) (reads-list ts)

pub reads-parts : (t : Tree ℕ) → has_read t ≡ (reads_written t || is_some (place_of_read t))
reads-parts (literal z) = refl
reads-parts (truth_literal b) = refl
reads-parts (name n) = refl
reads-parts (bound n) = refl
reads-parts (unary op a) = one_reads (has_read a)
reads-parts (binary op a b) = two_read (has_read a) (has_read b) (reads_written (binary op a b))
reads-parts (update a i x) = three_read (has_read a) (has_read i) (has_read x)
reads-parts (quantified q low high body) = range_reads (has_read low) (has_read high)
reads-parts (listed l ts) = reads-list ts

-- ---- marks

mark-at : (store : List Node) (marks : List Mark) (k : ℕ) → AreMarked store marks → k < length marks → IsMarkOf (tree_at store k) (mark_at marks k)
mark-at store marks k h l = h.at k (record { stays = true; reads = false }) l

each_mark : (store : List Node) (marks : List Mark) (ks : List ℕ) → AreMarked store marks → HaveMarks marks ks → AllByRecursion (λ k. IsMarkOf (tree_at store k) (mark_at marks k)) ks
each_mark store marks [] h g = tt
each_mark store marks (k ∷ ks) h g = (mark-at store marks k h (All-head (λ j. j < length marks) k ks g), each_mark store marks ks h (All-tail (λ j. j < length marks) k ks g))

weaker : {X : Type 0} (P Q : X → Type 0) → ((x : X) → P x → Q x) → (xs : List X) → AllByRecursion P xs → AllByRecursion Q xs
weaker P Q f [] h = tt
weaker P Q f (x ∷ xs) h = (f x h.0, weaker P Q f xs h.1)

pub all_marked-trees : (store : List Node) (marks : List Mark) (ks : List ℕ) → AreMarked store marks → HaveMarks marks ks → all_marked marks ks ≡ list_all stays (map (tree_at store) ks)
all_marked-trees store marks ks h g =
    same_all (λ k. (mark_at marks k).stays) stays (tree_at store) ks
    (weaker (λ k. IsMarkOf (tree_at store k) (mark_at marks k)) (λ k. (mark_at marks k).stays ≡ stays (tree_at store k)) (λ k m. m.stays) ks (each_mark store marks ks h g))

pub marked_place-trees : (store : List Node) (marks : List Mark) (ks : List ℕ) → AreMarked store marks → HaveMarks marks ks → marked_place marks ks ≡ first_place has_read (map (tree_at store) ks)
marked_place-trees store marks ks h g =
    same_places (λ k. (mark_at marks k).reads) has_read (tree_at store) ks
    (weaker (λ k. IsMarkOf (tree_at store k) (mark_at marks k)) (λ k. (mark_at marks k).reads ≡ has_read (tree_at store k)) (λ k m. m.reads) ks (each_mark store marks ks h g))

-- one more
pub AreMarked-push : (store : List Node) (marks : List Mark) (m : Mark) → AreMarked store marks → length marks < length store → IsMarkOf (tree_at store (length marks)) m → AreMarked store (marks ++ m ∷ [])
AreMarked-push store marks m h l g = record { within = omega (arith, length_push marks m); at = λ k d i. by_place k d i (cases_lt k (length marks)) }
  where
    by_place : (k : ℕ) (d : Mark) → k < length (marks ++ m ∷ []) → (k < length marks) ⊎ (length marks ≤ k) → IsMarkOf (tree_at store k) (get_or (marks ++ m ∷ []) k d)
    by_place k d i (inl old) = subst (IsMarkOf (tree_at store k)) (sym (get_or_append_left marks (m ∷ []) d k old)) (h.at k d old)
    by_place k d i (inr new) =
        let is : k ≡ length marks = omega (arith, length_push marks m) in
        subst (λ j. IsMarkOf (tree_at store j) (get_or (marks ++ m ∷ []) k d)) (sym is) (subst (IsMarkOf (tree_at store (length marks))) (sym (get_or_push marks m d k (sym is))) g)

-- the marks stay as the store grows
pub AreMarked-grows : (old new : List Node) (marks : List Mark) → Grows old new → AreMarked old marks → AreMarked new marks
AreMarked-grows old new marks g h = record {
  within = omega (arith, h.within, Grows-length old new g);
  at = λ k d l. subst (λ t. IsMarkOf t (get_or marks k d)) (sym (Grows-tree_at old new k g (omega (arith, l, h.within)))) (h.at k d l);
}

-- the first number whose mark says that it has a read
pub marked_part-found : (marks : List Mark) (ids : List ℕ) (place : ℕ) (d : Mark) → HaveMarks marks ids → place < length ids → (get_or marks (get_or ids place 0) d).reads ≡ true → ((k : ℕ) (e : ℕ) → k < place → (mark_at marks (get_or ids k e)).reads ≡ false) →
    IsMarkedPart marks ids (Some (record { place = place; id = get_or ids place 0 }))
marked_part-found marks ids place d h l e g =
    let there = h place 0 l in (
      first_place-found (λ k. (mark_at marks k).reads) ids place 0 l (ap (λ (m : Mark). m.reads) (get_or_default marks (get_or ids place 0) (record { stays = true; reads = false }) d there) ∙ e) (λ k m. g k 0 m),
      slice_get-get_or ids place 0 l,
    )
