-- How the comparison of stored terms goes.
use Rattle.std.proofs.Common.{◌≡◌, ◌≢◌, ℕ, zero, suc, ◌<◌, ◌+◌, List, [], ◌∷◌, ◌++◌, map, length, take, slice_get, Some, refl, sym, ap, ap₂, ◌∙◌, subst, arith, Ordering, Less, Equal, Greater}
use Rattle.std.specs.List.{All}
use Rattle.std.specs.Ordering.{ordering_then, nat_cmp, MatchOrdering}
use Rattle.std.specs.Cmp.Lexicographic.{slice_cmp}
use Rattle.std.proofs.lemmas.Cmp.{tied_itself, lists_total, ranked}
use Rattle.std.proofs.lemmas.List.{length-map, take_more}
use Rattle.std.proofs.lemmas.List.Elements.{All-get_or}
use Rattle.std.proofs.lemmas.Option.{slice_get_within, get_or_from_slice_get}
use Rattle.slang_values.specs.Tree.{Tree, parts}
use Rattle.tree_forms.specs.Order.{head, head_cmp, tree_cmp}
use Rattle.tree_forms.proofs.Ordered.{tree_cmp_total}
use Rattle.tree_forms.proofs.TreesApart.{tree_cmp-parts, tree_cmp-Equal, tree_cmp_same}
use Rattle.term_nodes.specs.declared.node.Node.{Node}
use Rattle.term_nodes.specs.declared.node.NodeShape.{NodeShape}
use Rattle.term_nodes.specs.Node.{numbers, shape_tree, shape_numbers, IsShapeOf}
use Rattle.term_store.specs.Store.{tree_at, IsPlaced, IsStore}
use Rattle.node_parts.proofs.Placed.{parts-placed, head-placed, below-placed}
use Rattle.store_order.specs.Compared.{DifferFirst, CompareAsParts}

-- ---- lists that are the same up to a place

unless_equal : (o r : Ordering) → (o ≡ Equal → ⊥) → ordering_then o r ≡ o
unless_equal Less r n = refl
unless_equal Equal r n = absurd (n refl)
unless_equal Greater r n = refl

-- two lists compare as the first elements that differ
slice_cmp-differ : (f : ℕ → Tree ℕ) (ks js : List ℕ) (at k j : ℕ) → take at ks ≡ take at js → slice_get ks at ≡ Some k → slice_get js at ≡ Some j → (tree_cmp (f k) (f j) ≡ Equal → ⊥) →
    slice_cmp tree_cmp (map f ks) (map f js) ≡ tree_cmp (f k) (f j)
slice_cmp-differ f [] js at k j e p q n = absurd (cc)
slice_cmp-differ f (x ∷ ks) [] at k j e p q n = absurd (cc)
slice_cmp-differ f (x ∷ ks) (y ∷ js) zero k j e p q n =
    let a : x ≡ k = cc in
    let b : y ≡ j = cc in
    ap (λ o. ordering_then o (slice_cmp tree_cmp (map f ks) (map f js))) (ap₂ (λ u v. tree_cmp (f u) (f v)) a b) ∙ unless_equal (tree_cmp (f k) (f j)) _ n
slice_cmp-differ f (x ∷ ks) (y ∷ js) (suc at) k j e p q n =
    let a : x ≡ y = cc in
    let b : take at ks ≡ take at js = cc in
    ap (λ o. ordering_then o (slice_cmp tree_cmp (map f ks) (map f js))) (tree_cmp_same (f x) (f y) (ap f a)) ∙ slice_cmp-differ f ks js at k j b p q n

then-then : (h n r : Ordering) → ordering_then h (ordering_then n r) ≡ ordering_then (ordering_then h n) r
then-then Less n r = refl
then-then Equal n r = refl
then-then Greater n r = refl

both_equal : (h n : Ordering) → ordering_then h n ≡ Equal → n ≡ Equal
both_equal Less n e = absurd (cc)
both_equal Equal n e = e
both_equal Greater n e = absurd (cc)

-- ---- two stored terms

-- different numbers are different terms
pub unequal_terms : (store : List Node) (k j : ℕ) → IsStore store → k < length store → j < length store → k ≢ j → tree_cmp (tree_at store k) (tree_at store j) ≡ Equal → ⊥
unequal_terms store k j is l m n e = n (is.distinct k j l m (tree_cmp-Equal (tree_at store k) (tree_at store j) e))

nat_ties : (m n : ℕ) → nat_cmp m n ≡ Equal → m ≡ n
nat_ties m n e = subst (λ o. MatchOrdering o (m < n) (m ≡ n) (n < m)) e (ranked m n (nat_cmp m n) refl)

place_holds : (P : ℕ → Type 0) (ks : List ℕ) (at k : ℕ) → All P ks → slice_get ks at ≡ Some k → P k
place_holds P ks at k h e =
    subst P (get_or_from_slice_get ks at k k e) (All-get_or P ks at k (slice_get_within ks at k e) h)

module _ (store : List Node) (a b : ℕ) (n m : Node) (s t : NodeShape) (p : IsPlaced store a n) (q : IsPlaced store b m) (g : IsShapeOf n s) (h : IsShapeOf m t) where
  part_numbers : parts (tree_at store a) ≡ map (tree_at store) (shape_numbers s)
  part_numbers = parts-placed store a n p ∙ ap (map (tree_at store)) g.numbers

  other_numbers : parts (tree_at store b) ≡ map (tree_at store) (shape_numbers t)
  other_numbers = parts-placed store b m q ∙ ap (map (tree_at store)) h.numbers

  abbrev tops : Ordering
  tops = ordering_then (head_cmp (head (shape_tree [] s)) (head (shape_tree [] t))) (nat_cmp (length (shape_numbers s)) (length (shape_numbers t)))

  abbrev rest : Ordering
  rest = slice_cmp tree_cmp (map (tree_at store) (shape_numbers s)) (map (tree_at store) (shape_numbers t))

  by_tops : tree_cmp (tree_at store a) (tree_at store b) ≡ ordering_then tops rest
  by_tops =
      tree_cmp-parts (tree_at store a) (tree_at store b) ∙
      ap₂ ordering_then
      (ap₂ head_cmp (head-placed store a n p ∙ ap head (g.tree [])) (head-placed store b m q ∙ ap head (h.tree [])))
      (ap₂ ordering_then
      (ap₂ nat_cmp (ap length part_numbers ∙ length-map (shape_numbers s) (tree_at store)) (ap length other_numbers ∙ length-map (shape_numbers t) (tree_at store)))
      (ap₂ (slice_cmp tree_cmp) part_numbers other_numbers)) ∙
      then-then (head_cmp (head (shape_tree [] s)) (head (shape_tree [] t))) (nat_cmp (length (shape_numbers s)) (length (shape_numbers t))) rest

  -- unequal heads or counts decide
  pub tops_decide : (o : Ordering) → o ≡ tops → (o ≡ Equal → ⊥) → o ≡ tree_cmp (tree_at store a) (tree_at store b)
  tops_decide o e u = sym (by_tops ∙ ap (λ x. ordering_then x rest) (sym e) ∙ unless_equal o rest u)

  pub as_many_parts : Equal ≡ tops → length (shape_numbers s) ≡ length (shape_numbers t)
  as_many_parts e = nat_ties (length (shape_numbers s)) (length (shape_numbers t)) (both_equal (head_cmp (head (shape_tree [] s)) (head (shape_tree [] t))) _ (sym e))

  parts_decide : Equal ≡ tops → tree_cmp (tree_at store a) (tree_at store b) ≡ rest
  parts_decide e = by_tops ∙ ap (λ x. ordering_then x rest) (sym e)

  pub same_parts : Equal ≡ tops → shape_numbers s ≡ shape_numbers t → Equal ≡ tree_cmp (tree_at store a) (tree_at store b)
  same_parts e f =
      sym (parts_decide e ∙ ap (λ ks. slice_cmp tree_cmp (map (tree_at store) (shape_numbers s)) (map (tree_at store) ks)) (sym f) ∙ tied_itself (lists_total tree_cmp_total) (map (tree_at store) (shape_numbers s)))

  pub first_parts : IsStore store → a < length store → b < length store → Equal ≡ tops → (k j : ℕ) → DifferFirst (shape_numbers s) (shape_numbers t) k j → CompareAsParts store a b k j
  first_parts is l r e k j d =
      let below : k < a = place_holds (λ x. x < a) (shape_numbers s) d.at k (subst (All (λ x. x < a)) g.numbers (below-placed store a n p)) d.first in
      let under : j < b = place_holds (λ x. x < b) (shape_numbers t) d.at j (subst (All (λ x. x < b)) h.numbers (below-placed store b m q)) d.second in
      let first : k < length store = omega arith in
      let second : j < length store = omega arith in
      record {
        below = below;
        first = first;
        second = second;
        same = sym (parts_decide e ∙ slice_cmp-differ (tree_at store) (shape_numbers s) (shape_numbers t) d.at k j d.before d.first d.second (unequal_terms store k j is first second d.unequal));
      }

pub same_number : (store : List Node) (a b : ℕ) → a ≡ b → Equal ≡ tree_cmp (tree_at store a) (tree_at store b)
same_number store a b e = sym (tree_cmp_same (tree_at store a) (tree_at store b) (ap (tree_at store) e))

-- ---- the loop over the parts

pub same_further : (ks js : List ℕ) (at k j : ℕ) → take at ks ≡ take at js → slice_get ks at ≡ Some k → slice_get js at ≡ Some j → k ≡ j → take (at + 1) ks ≡ take (at + 1) js
same_further ks js at k j e p q f =
    take_more ks at k (slice_get_within ks at k p) ∙
    ap₂ (λ xs x. xs ++ x ∷ []) e (get_or_from_slice_get ks at k k p ∙ f ∙ sym (get_or_from_slice_get js at j k q)) ∙
    sym (take_more js at k (slice_get_within js at j q))
