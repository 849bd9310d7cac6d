-- How large a tree is.
use Rattle.std.specs.Prelude.{ℕ, ◌+◌, max}
use Rattle.slang_values.specs.Tree.{Tree, literal, truth_literal, name, bound, unary, binary, update, quantified, listed, Trees, no_trees, tree_then}

abbrev mutual
  -- how many nodes the tree has
  pub node_count : {A : Type 0} → Tree A → ℕ
  node_count (literal z) = 1
  node_count (truth_literal b) = 1
  node_count (name a) = 1
  node_count (bound n) = 1
  node_count (unary op a) = node_count a + 1
  node_count (binary op a b) = node_count a + node_count b + 1
  node_count (update a i x) = node_count a + node_count i + node_count x + 1
  node_count (quantified q low high body) = node_count low + node_count high + node_count body + 1
  node_count (listed l ts) = total_nodes ts + 1

  pub total_nodes : {A : Type 0} → Trees A → ℕ
  total_nodes no_trees = 0
  total_nodes (tree_then t ts) = node_count t + total_nodes ts

abbrev mutual
  -- 1 where the tree has no parts, and else one more than the highest part
  pub height : {A : Type 0} → Tree A → ℕ
  height (literal z) = 1
  height (truth_literal b) = 1
  height (name a) = 1
  height (bound n) = 1
  height (unary op a) = height a + 1
  height (binary op a b) = max (height a) (height b) + 1
  height (update a i x) = max (max (height a) (height i)) (height x) + 1
  height (quantified q low high body) = max (max (height low) (height high)) (height body) + 1
  height (listed l ts) = greatest_height ts + 1

  pub greatest_height : {A : Type 0} → Trees A → ℕ
  greatest_height no_trees = 0
  greatest_height (tree_then t ts) = max (height t) (greatest_height ts)
