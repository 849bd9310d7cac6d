-- How many quantifiers must stand around a tree so that no bound variable of it is loose.
use Rattle.std.specs.Prelude.{◌≡◌, ℕ, suc, pred, ◌<◌, ◌≤◌, max, List, [], ◌∷◌, length, get_or}
use Rattle.slang_values.specs.Tree.{Tree, literal, truth_literal, name, bound, unary, binary, update, quantified, listed, Trees, no_trees, tree_then}
use Rattle.term_nodes.specs.declared.node.Node.{Node}
use Rattle.term_nodes.specs.declared.node.NodeShape.{NodeShape}
use Rattle.term_store.specs.Store.{tree_at}

abbrev mutual
  pub depth_needed : Tree ℕ → ℕ
  depth_needed (literal z) = 0
  depth_needed (truth_literal b) = 0
  depth_needed (name n) = 0
  depth_needed (bound n) = suc n
  depth_needed (unary op a) = depth_needed a
  depth_needed (binary op a b) = max (depth_needed a) (depth_needed b)
  depth_needed (update a i x) = max (depth_needed a) (max (depth_needed i) (depth_needed x))
  depth_needed (quantified q low high body) = max (depth_needed low) (max (depth_needed high) (pred (depth_needed body)))
  depth_needed (listed l ts) = depth_needed_by_all ts

  pub depth_needed_by_all : Trees ℕ → ℕ
  depth_needed_by_all no_trees = 0
  depth_needed_by_all (tree_then t ts) = max (depth_needed t) (depth_needed_by_all ts)

-- the first numbers of the store, each with the depth that its tree needs
pub record AreDepths (store : List Node) (depths : List ℕ) : Type 0 where
  pub within : length depths ≤ length store
  pub at : (k : ℕ) → k < length depths → get_or depths k 0 ≡ depth_needed (tree_at store k)

-- the greatest of the depths at those places
abbrev pub greatest_depth : List ℕ → List ℕ → ℕ
greatest_depth depths [] = 0
greatest_depth depths (k ∷ ks) = max (get_or depths k 0) (greatest_depth depths ks)

-- the depth that the tree of a shape needs, by the depths of its parts
abbrev pub shape_depth : List ℕ → NodeShape → ℕ
shape_depth depths (NodeShape.Literal z) = 0
shape_depth depths (NodeShape.Truth b) = 0
shape_depth depths (NodeShape.Symbol n) = 0
shape_depth depths (NodeShape.Bound n) = suc n
shape_depth depths (NodeShape.Unary op a) = get_or depths a 0
shape_depth depths (NodeShape.Binary op a b) = max (get_or depths a 0) (get_or depths b 0)
shape_depth depths (NodeShape.Update a i x) = max (get_or depths a 0) (max (get_or depths i 0) (get_or depths x 0))
shape_depth depths (NodeShape.Quantified q low high body) = max (get_or depths low 0) (max (get_or depths high 0) (pred (get_or depths body 0)))
shape_depth depths (NodeShape.Sequence s ks) = greatest_depth depths ks.now
shape_depth depths (NodeShape.Record n ks) = greatest_depth depths ks.now
