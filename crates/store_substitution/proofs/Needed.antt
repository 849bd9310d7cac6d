-- The depths of the trees of a store.
use Rattle.std.proofs.Common.{◌≡◌, ℕ, zero, suc, pred, ◌+◌, ◌-◌, ◌<◌, ◌≤◌, max, List, [], ◌∷◌, ◌++◌, map, drop, length, get_or, ◌⊎◌, inl, inr, refl, sym, ap, ap₂, ◌∙◌, subst, arith}
use Rattle.std.specs.List.{AllByRecursion}
use Rattle.std.proofs.Math.Seq.{drop-cons}
use Rattle.std.proofs.lemmas.Bool.{cases_lt}
use Rattle.std.proofs.lemmas.List.{get_or_push, get_or_append_left, length_push}
use Rattle.slang_values.specs.Tree.{Tree}
use Rattle.term_trees.specs.Term.{trees_of}
use Rattle.term_nodes.specs.declared.node.Node.{Node}
use Rattle.term_nodes.specs.declared.node.NodeShape.{NodeShape}
use Rattle.term_nodes.specs.Node.{numbers, shape_tree, shape_numbers, IsShapeOf}
use Rattle.term_store.specs.Store.{stored, tree_at, IsPlaced, Grows}
use Rattle.term_store.proofs.Stores.{Grows-length, Grows-tree_at}
use Rattle.store_substitution.specs.Loose.{depth_needed, depth_needed_by_all, greatest_depth, shape_depth, AreDepths}

pub depths-push : (store : List Node) (depths : List ℕ) (d : ℕ) → AreDepths store depths → length depths < length store → d ≡ depth_needed (tree_at store (length depths)) → AreDepths store (depths ++ d ∷ [])
depths-push store depths d h l e = record { within = omega (arith, length_push depths d); at = λ k i. by_place k i (cases_lt k (length depths)) }
  where
    by_place : (k : ℕ) → k < length (depths ++ d ∷ []) → (k < length depths) ⊎ (length depths ≤ k) → get_or (depths ++ d ∷ []) k 0 ≡ depth_needed (tree_at store k)
    by_place k i (inl old) = get_or_append_left depths (d ∷ []) 0 k old ∙ h.at k old
    by_place k i (inr new) =
        let is : k ≡ length depths = omega (arith, length_push depths d) in
        get_or_push depths d 0 k (sym is) ∙ e ∙ ap (λ j. depth_needed (tree_at store j)) (sym is)

pub depths-grow : (old new : List Node) (depths : List ℕ) → Grows old new → AreDepths old depths → AreDepths new depths
depths-grow old new depths g h = record {
  within = omega (arith, h.within, Grows-length old new g);
  at = λ k l. h.at k l ∙ ap depth_needed (sym (Grows-tree_at old new k g (omega (arith, l, h.within))));
}

-- the depths of a list's trees
greatest_of_trees : (store : List Node) (depths : List ℕ) (ks : List ℕ) → AreDepths store depths → AllByRecursion (λ k. k < length depths) ks → greatest_depth depths ks ≡ depth_needed_by_all (trees_of (map (tree_at store) ks))
greatest_of_trees store depths [] h g = refl
greatest_of_trees store depths (k ∷ ks) h g = ap₂ (λ a b. max a b) (h.at k g.0) (greatest_of_trees store depths ks h g.1)

pub shape_depth_is : (store : List Node) (depths : List ℕ) (s : NodeShape) → AreDepths store depths → AllByRecursion (λ k. k < length depths) (shape_numbers s) → shape_depth depths s ≡ depth_needed (shape_tree (stored store) s)
shape_depth_is store depths (NodeShape.Literal z) h g = refl
shape_depth_is store depths (NodeShape.Truth b) h g = refl
shape_depth_is store depths (NodeShape.Symbol n) h g = refl
shape_depth_is store depths (NodeShape.Bound n) h g = refl
shape_depth_is store depths (NodeShape.Unary op a) h g = h.at a g.0
shape_depth_is store depths (NodeShape.Binary op a b) h g = ap₂ (λ x y. max x y) (h.at a g.0) (h.at b g.1.0)
shape_depth_is store depths (NodeShape.Update a i x) h g =
    let e = h.at a g.0 in
    let f = h.at i g.1.0 in
    let k = h.at x g.1.1.0 in
    λ j. max (e j) (max (f j) (k j))
shape_depth_is store depths (NodeShape.Quantified q low high body) h g =
    let e = h.at low g.0 in
    let f = h.at high g.1.0 in
    let k = h.at body g.1.1.0 in
    λ j. max (e j) (max (f j) (pred (k j)))
shape_depth_is store depths (NodeShape.Sequence s ks) h g = greatest_of_trees store depths ks.now h g
shape_depth_is store depths (NodeShape.Record n ks) h g = greatest_of_trees store depths ks.now h g

pub parts_measured : (store : List Node) (id : ℕ) (n : Node) (s : NodeShape) (depths : List ℕ) → IsPlaced store id n → IsShapeOf n s → id ≡ length depths → AllByRecursion (λ k. k < length depths) (shape_numbers s)
parts_measured store id n s depths h g e = subst (λ b. AllByRecursion (λ k. k < b) (shape_numbers s)) e (subst (AllByRecursion (λ k. k < id)) g.numbers h.below)

pub at_each : (P : ℕ → Type 0) (ks : List ℕ) (i d : ℕ) → AllByRecursion P ks → i < length ks → P (get_or ks i d)
at_each P [] i d h l = absurd (omega arith)
at_each P (k ∷ ks) zero d h l = h.0
at_each P (k ∷ ks) (suc i) d h l = at_each P ks i d h.1 (omega arith)

-- one place more from the end
drop_length : {X : Type 0} (xs : List X) → drop (length xs) xs ≡ []
drop_length [] = refl
drop_length (x ∷ xs) = drop_length xs

pub greatest_of_none : (depths ks : List ℕ) (n : ℕ) → n ≡ length ks → greatest_depth depths (drop n ks) ≡ 0
greatest_of_none depths ks n e = ap (greatest_depth depths) (ap (λ m. drop m ks) e ∙ drop_length ks)

pub greatest_more : (depths ks : List ℕ) (count d : ℕ) → count < length ks → greatest_depth depths (drop (length ks - (count + 1)) ks) ≡ max (get_or depths (get_or ks (length ks - 1 - count) d) 0) (greatest_depth depths (drop (length ks - count) ks))
greatest_more depths ks count d l =
    let at : ℕ = length ks - 1 - count in
    let here : length ks - (count + 1) ≡ at = omega arith in
    let behind : suc at ≡ length ks - count = omega arith in
    ap (greatest_depth depths) (ap (λ n. drop n ks) here ∙ drop-cons ks at d (omega arith) ∙ ap (λ n. get_or ks at d ∷ drop n ks) behind)

pub ruleset greatest_lines = (greatest_of_none, greatest_more)
