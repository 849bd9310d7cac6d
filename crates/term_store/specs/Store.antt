-- What a store is: a list of nodes, of which each stands for a tree, and each part before the trees that have it.
use Rattle.std.specs.Prelude.{◌≡◌, ℕ, ◌<◌, ◌≤◌, ◌-◌, ◌^◌, min, List, [], ◌∷◌, ◌++◌, length, map, get_or, slice_get, Some}
use Rattle.std.specs.List.{AllByRecursion, Contains}
use Rattle.slang_values.specs.Tree.{Tree, Trees, no_trees, tree_then, literal, truth_literal, name, bound, unary, binary, update, quantified, listed}
use Rattle.slang_values.specs.Measure.{node_count, height}
use Rattle.term_nodes.specs.declared.node.Node.{Node}
use Rattle.term_store.specs.declared.measure.Measure.{Measure}
use Rattle.term_nodes.specs.Node.{node_tree, numbers, tree_of}

-- ---- the trees of a store

-- the trees ts, and then those of the nodes, each over the trees before it
abbrev pub trees_over : List (Tree ℕ) → List Node → List (Tree ℕ)
trees_over ts [] = ts
trees_over ts (n ∷ ns) = trees_over (ts ++ node_tree ts n ∷ []) ns

-- the trees of a store, each at the place that is its number
abbrev pub stored : List Node → List (Tree ℕ)
stored store = trees_over [] store

-- the tree with that number
abbrev pub tree_at : List Node → ℕ → Tree ℕ
tree_at store k = tree_of (stored store) k

-- number k stands for the tree
abbrev pub Holds : List Node → ℕ → Tree ℕ → Type 0
Holds store k t = slice_get (stored store) k ≡ Some t

-- the numbers are in the store
abbrev pub AreWithin : List Node → List ℕ → Type 0
AreWithin store ks = AllByRecursion (λ k. k < length store) ks

-- ---- what a store keeps

-- The node at place k has parts that stand before it, and its tree is theirs below its operator.
pub record IsPlaced (store : List Node) (k : ℕ) (n : Node) : Type 0 where
  pub below : AllByRecursion (λ p. p < k) (numbers n)
  pub tree : tree_at store k ≡ node_tree (stored store) n

-- no tree stands twice: equal trees have one number
abbrev pub AllDistinct : List Node → Type 0
AllDistinct store = (j k : ℕ) → j < length store → k < length store → tree_at store j ≡ tree_at store k → j ≡ k

pub record IsStore (store : List Node) : Type 0 where
  pub placed : (k : ℕ) (d : Node) → k < length store → IsPlaced store k (get_or store k d)
  pub distinct : AllDistinct store

-- ---- how a store grows

-- the new store begins with the old one
pub record Grows (old new : List Node) : Type 0 where
  pub more : List Node
  pub is : new ≡ old ++ more

abbrev mutual
  -- the tree itself, and those of its parts at every depth
  pub subtrees : Tree ℕ → List (Tree ℕ)
  subtrees (literal z) = literal z ∷ []
  subtrees (truth_literal b) = truth_literal b ∷ []
  subtrees (name n) = name n ∷ []
  subtrees (bound n) = bound n ∷ []
  subtrees (unary op a) = unary op a ∷ subtrees a
  subtrees (binary op a b) = binary op a b ∷ subtrees a ++ subtrees b
  subtrees (update a i x) = update a i x ∷ subtrees a ++ subtrees i ++ subtrees x
  subtrees (quantified q low high body) = quantified q low high body ∷ subtrees low ++ subtrees high ++ subtrees body
  subtrees (listed l ts) = listed l ts ∷ all_subtrees ts

  pub all_subtrees : Trees ℕ → List (Tree ℕ)
  all_subtrees no_trees = []
  all_subtrees (tree_then t ts) = subtrees t ++ all_subtrees ts

-- The new store is the old one, followed by nodes whose trees are among ts. Since no tree stands twice, the old one lacked each.
pub record GainsAmong (old new : List Node) (ts : List (Tree ℕ)) : Type 0 where
  pub grows : Grows old new
  pub among : (k : ℕ) → length old ≤ k → k < length new → Contains ts (tree_at new k)

-- The new store is the old one, or that and the node. Since no tree stands twice, the second where the old one lacks the node's tree.
pub data GainsAtMost (n : Node) (old new : List Node) : Type 0 where
  nothing : new ≡ old → GainsAtMost n old new
  the_node : new ≡ old ++ n ∷ [] → GainsAtMost n old new

-- these numbers stand for these trees
pub record AreTreesOf (store : List Node) (ks : List ℕ) (ts : List (Tree ℕ)) : Type 0 where
  pub within : AreWithin store ks
  pub trees : map (tree_at store) ks ≡ ts

-- ---- measures

-- the count of nodes and the height, each up to the greatest u32
pub record IsMeasureOf (t : Tree ℕ) (m : Measure) : Type 0 where
  pub nodes : m.nodes ≡ min (node_count t) (2 ^ 32 - 1)
  pub height : m.height ≡ min (height t) (2 ^ 32 - 1)
