-- A node of a store, by its operator.
use Rattle.std.specs.Prelude.{◌≡◌, ℕ, ◌<◌, List}
use Rattle.std.specs.List.{AllByRecursion}
use Rattle.term_nodes.specs.declared.node.Node.{Node}
use Rattle.term_nodes.specs.declared.node.NodeShape.{NodeShape}
use Rattle.term_nodes.specs.Node.{shape_tree, shape_numbers}
use Rattle.term_store.specs.Store.{stored, tree_at}

-- the tree with that number is the shape's, whose parts stand below it
pub record IsShapeAt (store : List Node) (k : ℕ) (shape : NodeShape) : Type 0 where
  pub tree : tree_at store k ≡ shape_tree (stored store) shape
  pub below : AllByRecursion (λ p. p < k) (shape_numbers shape)
