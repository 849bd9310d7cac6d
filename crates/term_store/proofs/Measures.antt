-- Measures of several parts, and of a node over them.
use Rattle.std.proofs.Common.{◌≡◌, ℕ, zero, suc, ◌+◌, ◌-◌, ◌^◌, ◌<◌, min, max, List, [], ◌∷◌, ◌++◌, map, take, get_or, length, refl, sym, ap, ◌∙◌, arith}
use Rattle.std.specs.List.{AllByRecursion}
use Rattle.std.proofs.lemmas.List.{map_more}
use Rattle.slang_values.specs.Tree.{Tree, Trees, literal, truth_literal, name, bound, unary, binary, update, quantified, listed, no_trees, tree_then, parts, tree_list}
use Rattle.slang_values.specs.Measure.{node_count, height, total_nodes, greatest_height}
use Rattle.term_trees.specs.Term.{trees_of}
use Rattle.term_store.specs.declared.measure.Measure.{Measure}
use Rattle.term_store.specs.Inside.{IsMeasureOver}
use Rattle.term_store.specs.Store.{IsMeasureOf}

-- the measure of the parts together
pub record IsMeasureOfAll (ps : List (Tree ℕ)) (m : Measure) : Type 0 where
  pub nodes : m.nodes ≡ min (total_nodes (trees_of ps)) (2 ^ 32 - 1)
  pub height : m.height ≡ min (greatest_height (trees_of ps)) (2 ^ 32 - 1)

total_nodes-push : (ts : List (Tree ℕ)) (t : Tree ℕ) → total_nodes (trees_of (ts ++ t ∷ [])) ≡ total_nodes (trees_of ts) + node_count t
total_nodes-push [] t = omega arith
total_nodes-push (x ∷ ts) t = omega (arith, total_nodes-push ts t)

greatest_height-push : (ts : List (Tree ℕ)) (t : Tree ℕ) → greatest_height (trees_of (ts ++ t ∷ [])) ≡ max (greatest_height (trees_of ts)) (height t)
greatest_height-push [] t = omega arith
greatest_height-push (x ∷ ts) t = omega (arith, greatest_height-push ts t)

-- one part more
pub IsMeasureOfAll-more : (f : ℕ → Tree ℕ) (ks : List ℕ) (i k : ℕ) (a b c : Measure) → IsMeasureOfAll (map f (take i ks)) a → i < length ks → k ≡ get_or ks i k → IsMeasureOf (f k) b →
    c.nodes ≡ min (a.nodes + b.nodes) (2 ^ 32 - 1) → c.height ≡ max a.height b.height → IsMeasureOfAll (map f (take (i + 1) ks)) c
IsMeasureOfAll-more f ks i k a b c h l is g n e =
    let more : map f (take (i + 1) ks) ≡ map f (take i ks) ++ f k ∷ [] = map_more f ks i k l ∙ ap (λ x. map f (take i ks) ++ f x ∷ []) (sym is) in
    let nodes = ap (λ ts. total_nodes (trees_of ts)) more ∙ total_nodes-push (map f (take i ks)) (f k) in
    let high = ap (λ ts. greatest_height (trees_of ts)) more ∙ greatest_height-push (map f (take i ks)) (f k) in
    record { nodes = omega (arith, nodes, h.nodes, g.nodes); height = omega (arith, high, h.height, g.height) }

pub IsMeasureOver-above : (ps : List (Tree ℕ)) (a c : Measure) → IsMeasureOfAll ps a → c.nodes ≡ min (a.nodes + 1) (2 ^ 32 - 1) → c.height ≡ min (a.height + 1) (2 ^ 32 - 1) → IsMeasureOver ps c
IsMeasureOver-above ps a c h n e = record { nodes = omega (arith, h.nodes); height = omega (arith, h.height) }

-- ---- a tree by its parts

trees_of-tree_list : (ts : Trees ℕ) → trees_of (tree_list ts) ≡ ts
trees_of-tree_list no_trees = refl
trees_of-tree_list (tree_then t ts) = ap (tree_then t) (trees_of-tree_list ts)

node_count-parts : (t : Tree ℕ) → node_count t ≡ total_nodes (trees_of (parts t)) + 1
node_count-parts (literal z) = refl
node_count-parts (truth_literal b) = refl
node_count-parts (name n) = refl
node_count-parts (bound n) = refl
node_count-parts (unary op a) = omega arith
node_count-parts (binary op a b) = omega arith
node_count-parts (update a i x) = omega arith
node_count-parts (quantified q low high body) = omega arith
node_count-parts (listed l ts) = ap (λ x. total_nodes x + 1) (sym (trees_of-tree_list ts))

height-parts : (t : Tree ℕ) → height t ≡ greatest_height (trees_of (parts t)) + 1
height-parts (literal z) = refl
height-parts (truth_literal b) = refl
height-parts (name n) = refl
height-parts (bound n) = refl
height-parts (unary op a) = omega arith
height-parts (binary op a b) = omega arith
height-parts (update a i x) = omega arith
height-parts (quantified q low high body) = omega arith
height-parts (listed l ts) = ap (λ x. greatest_height x + 1) (sym (trees_of-tree_list ts))

pub IsMeasureOf-over : (t : Tree ℕ) (ps : List (Tree ℕ)) (m : Measure) → parts t ≡ ps → IsMeasureOver ps m → IsMeasureOf t m
IsMeasureOf-over t ps m e h =
    let nodes = node_count-parts t ∙ ap (λ x. total_nodes (trees_of x) + 1) e in
    let high = height-parts t ∙ ap (λ x. greatest_height (trees_of x) + 1) e in
    record { nodes = omega (arith, nodes, h.nodes); height = omega (arith, high, h.height) }

-- ---- lists

pub at_place : (P : ℕ → Type 0) (ks : List ℕ) (i d : ℕ) → AllByRecursion P ks → i < length ks → P (get_or ks i d)
at_place P [] i d h l = absurd (omega arith)
at_place P (k ∷ ks) zero d h l = h.0
at_place P (k ∷ ks) (suc i) d h l = at_place P ks i d h.1 (omega arith)
