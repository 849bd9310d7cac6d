-- What a store gains where a term is added.
use Rattle.std.proofs.Common.{◌≡◌, ℕ, zero, suc, ◌<◌, ◌≤◌, ◌+◌, List, [], ◌∷◌, ◌++◌, map, take, length, slice_get, Some, ◌⊎◌, inl, inr, Result, Ok, Err, IfOk, OnOk, OnErr, refl, sym, ap, ap₂, ◌∙◌, subst, arith, append_assoc}
use Rattle.std.specs.List.{Contains, flat_map}
use Rattle.std.proofs.lemmas.Bool.{cases_lt}
use Rattle.std.proofs.lemmas.List.{append-nil, map_push, length_push, take_more}
use Rattle.std.proofs.lemmas.List.Elements.{Contains-append_left, Contains-append_right, Contains-append_cases}
use Rattle.std.proofs.lemmas.Option.{none-some, same_Some, slice_get_within, get_or_from_slice_get}
use Rattle.slang_values.specs.Tree.{Tree, Trees, no_trees, tree_then, literal, truth_literal, name, bound, unary, binary, update, quantified, listed, parts, tree_list}
use Rattle.tree_forms.specs.Order.{head}
use Rattle.term_nodes.specs.declared.node.Node.{Node}
use Rattle.term_nodes.specs.Node.{node_tree, numbers, node_head}
use Rattle.term_store.specs.Store.{stored, tree_at, Holds, AreWithin, Grows, subtrees, all_subtrees, GainsAmong, GainsAtMost, nothing, the_node, AreTreesOf}
use Rattle.term_nodes.proofs.Nodes.{same_by_parts, head-node_tree, parts-node_tree}
use Rattle.term_store.proofs.Stores.{tree_at-push, Holds-within, tree_at-Holds, Grows-itself, Grows-Grows, Grows-push, Grows-length, Grows-tree_at}

-- ---- subtrees

all_subtrees-flat : (ts : Trees ℕ) → all_subtrees ts ≡ flat_map subtrees (tree_list ts)
all_subtrees-flat no_trees = refl
all_subtrees-flat (tree_then t ts) = ap (λ us. subtrees t ++ us) (all_subtrees-flat ts)

-- the tree, and the subtrees of its parts
pub subtrees-parts : (t : Tree ℕ) → subtrees t ≡ t ∷ flat_map subtrees (parts t)
subtrees-parts (literal z) = refl
subtrees-parts (truth_literal b) = refl
subtrees-parts (name n) = refl
subtrees-parts (bound n) = refl
subtrees-parts (unary op a) = ap (λ ts. unary op a ∷ ts) (sym (append-nil (subtrees a)))
subtrees-parts (binary op a b) = ap (λ ts. binary op a b ∷ subtrees a ++ ts) (sym (append-nil (subtrees b)))
subtrees-parts (update a i x) =
    ap (λ ts. update a i x ∷ ts) (append_assoc (subtrees a) (subtrees i) (subtrees x) ∙ ap (λ ts. subtrees a ++ (subtrees i ++ ts)) (sym (append-nil (subtrees x))))
subtrees-parts (quantified q low high body) =
    ap (λ ts. quantified q low high body ∷ ts) (append_assoc (subtrees low) (subtrees high) (subtrees body) ∙ ap (λ ts. subtrees low ++ (subtrees high ++ ts)) (sym (append-nil (subtrees body))))
subtrees-parts (listed l ts) = ap (λ us. listed l ts ∷ us) (all_subtrees-flat ts)

Contains-first : {X : Type 0} (x : X) (xs : List X) → Contains (x ∷ xs) x
Contains-first x xs = (zero, omega arith, refl)

flat_contains : {X A : Type 0} (f : X → List A) (xs : List X) (i : ℕ) (x : X) (u : A) → slice_get xs i ≡ Some x → Contains (f x) u → Contains (flat_map f xs) u
flat_contains f [] i x u e h = absurd (none-some x e)
flat_contains f (y ∷ ys) zero x u e h = Contains-append_left (f y) (flat_map f ys) u (subst (λ z. Contains (f z) u) (sym (same_Some y x e)) h)
flat_contains f (y ∷ ys) (suc i) x u e h = Contains-append_right (f y) (flat_map f ys) u (flat_contains f ys i x u e h)

-- which element has it
pub record IsFromOne {X A : Type 0} (f : X → List A) (xs : List X) (u : A) : Type 0 where
  pub at : ℕ
  pub one : X
  pub there : slice_get xs at ≡ Some one
  pub inside : Contains (f one) u

no_element : {A : Type 0} (u : A) → Contains [] u → ⊥
no_element u h = omega (arith, h.1)

by_side : {X A : Type 0} (f : X → List A) (y : X) (ys : List X) (u : A) → (Contains (flat_map f ys) u → IsFromOne f ys u) → Contains (f y) u ⊎ Contains (flat_map f ys) u → IsFromOne f (y ∷ ys) u
by_side f y ys u rest (inl g) = record { at = zero; one = y; there = refl; inside = g }
by_side f y ys u rest (inr g) = let r = rest g in record { at = suc r.at; one = r.one; there = r.there; inside = r.inside }

pub flat_cases : {X A : Type 0} (f : X → List A) (xs : List X) (u : A) → Contains (flat_map f xs) u → IsFromOne f xs u
flat_cases f [] u h = absurd (no_element u h)
flat_cases f (y ∷ ys) u h = by_side f y ys u (λ g. flat_cases f ys u g) (Contains-append_cases (f y) (flat_map f ys) u h)

pub subtrees-itself : (t : Tree ℕ) → Contains (subtrees t) t
subtrees-itself t = subst (λ ts. Contains ts t) (sym (subtrees-parts t)) (Contains-first t (flat_map subtrees (parts t)))

pub subtrees-part : (t p u : Tree ℕ) (i : ℕ) → slice_get (parts t) i ≡ Some p → Contains (subtrees p) u → Contains (subtrees t) u
subtrees-part t p u i e h =
    subst (λ ts. Contains ts u) (sym (subtrees-parts t)) (Contains-append_right (t ∷ []) (flat_map subtrees (parts t)) u (flat_contains subtrees (parts t) i p u e h))

-- ---- gains

pub GainsAmong-itself : (ns : List Node) (ts : List (Tree ℕ)) → GainsAmong ns ns ts
GainsAmong-itself ns ts = record { grows = Grows-itself ns; among = λ k l h. absurd (omega arith) }

pub GainsAmong-more : (a b c : List Node) (ts : List (Tree ℕ)) → GainsAmong a b ts → GainsAmong b c ts → GainsAmong a c ts
GainsAmong-more a b c ts g h = record { grows = Grows-Grows a b c g.grows h.grows; among = λ k l m. by_place k l m (cases_lt k (length b)) }
  where
    by_place : (k : ℕ) → length a ≤ k → k < length c → (k < length b) ⊎ (length b ≤ k) → Contains ts (tree_at c k)
    by_place k l m (inl old) = subst (Contains ts) (sym (Grows-tree_at b c k h.grows old)) (g.among k l old)
    by_place k l m (inr new) = h.among k new m

-- what is gained among the subtrees of a part is gained among those of the tree
pub GainsAmong-part : (a b : List Node) (t p : Tree ℕ) (i : ℕ) → slice_get (parts t) i ≡ Some p → GainsAmong a b (subtrees p) → GainsAmong a b (subtrees t)
GainsAmong-part a b t p i e g = record { grows = g.grows; among = λ k l h. subtrees-part t p (tree_at b k) i e (g.among k l h) }

-- the node over the parts has the term's tree
pub node_over_tree : (ns : List Node) (n : Node) (t : Tree ℕ) → node_head n ≡ head t → map (tree_at ns) (numbers n) ≡ parts t → node_tree (stored ns) n ≡ t
node_over_tree ns n t e f = same_by_parts (node_tree (stored ns) n) t (head-node_tree (stored ns) n ∙ e) (parts-node_tree (stored ns) n ∙ f)

pub GainsAmong-node : (a b : List Node) (n : Node) (t : Tree ℕ) → node_tree (stored a) n ≡ t → GainsAtMost n a b → GainsAmong a b (subtrees t)
GainsAmong-node a b n t e (nothing is) = subst (λ ns. GainsAmong a ns (subtrees t)) (sym is) (GainsAmong-itself a (subtrees t))
GainsAmong-node a b n t e (the_node is) = subst (λ ns. GainsAmong a ns (subtrees t)) (sym is) (record { grows = Grows-push a n; among = λ k l h. last k l h })
  where
    last : (k : ℕ) → length a ≤ k → k < length (a ++ n ∷ []) → Contains (subtrees t) (tree_at (a ++ n ∷ []) k)
    last k l h =
        let is : k ≡ length a = omega (arith, length_push a n) in
        subst (Contains (subtrees t)) (sym (ap (tree_at (a ++ n ∷ [])) is ∙ tree_at-push a n ∙ e)) (subtrees-itself t)

-- ---- the loop over the parts

AreWithin-grows : (a b : List Node) (ks : List ℕ) → Grows a b → AreWithin a ks → AreWithin b ks
AreWithin-grows a b [] g h = tt
AreWithin-grows a b (k ∷ ks) g h = (omega (arith, h.0, Grows-length a b g), AreWithin-grows a b ks g h.1)

pub trees-grow : (a b : List Node) (ks : List ℕ) → Grows a b → AreWithin a ks → map (tree_at b) ks ≡ map (tree_at a) ks
trees-grow a b [] g h = refl
trees-grow a b (k ∷ ks) g h = ap₂ (λ x xs. x ∷ xs) (Grows-tree_at a b k g h.0) (trees-grow a b ks g h.1)

within-push : (ns : List Node) (ks : List ℕ) (k : ℕ) → AreWithin ns ks → k < length ns → AreWithin ns (ks ++ k ∷ [])
within-push ns [] k h l = (l, tt)
within-push ns (j ∷ ks) k h l = (h.0, within-push ns ks k h.1 l)

pub AreTreesOf-more : (a b : List Node) (ks : List ℕ) (ts : List (Tree ℕ)) (i k : ℕ) (t : Tree ℕ) → AreTreesOf a ks (take i ts) → Grows a b → slice_get ts i ≡ Some t → Holds b k t → AreTreesOf b (ks ++ k ∷ []) (take (i + 1) ts)
AreTreesOf-more a b ks ts i k t h g at held = record {
  within = within-push b ks k (AreWithin-grows a b ks g h.within) (Holds-within b k t held);
  trees = map_push (tree_at b) ks k ∙ ap₂ (λ xs x. xs ++ x ∷ []) (trees-grow a b ks g h.within ∙ h.trees) (tree_at-Holds b k t held ∙ sym (get_or_from_slice_get ts i t t at)) ∙ sym (take_more ts i t (slice_get_within ts i t at));
}

-- where the node was not added
pub GainsAmong-after : {E : Type 0} (r : Result ℕ E) (a b : List Node) (n : Node) (t : Tree ℕ) → node_tree (stored a) n ≡ t → OnOk r (GainsAtMost n a b) → OnErr r (b ≡ a) → GainsAmong a b (subtrees t)
GainsAmong-after (Ok k) a b n t e g h = GainsAmong-node a b n t e g
GainsAmong-after (Err x) a b n t e g h = subst (λ ns. GainsAmong a ns (subtrees t)) (sym h) (GainsAmong-itself a (subtrees t))

pub number_of_tree : {E : Type 0} (r : Result ℕ E) (ns : List Node) (s t : Tree ℕ) → s ≡ t → IfOk r (λ k. Holds ns k s) → IfOk r (λ k. Holds ns k t)
number_of_tree (Ok k) ns s t e h = subst (Holds ns k) e h
number_of_tree (Err x) ns s t e h = tt

pub empty_parts : (ns : List Node) (ts : List (Tree ℕ)) → AreTreesOf ns [] (take 0 ts)
empty_parts ns ts = record { within = tt; trees = refl }
