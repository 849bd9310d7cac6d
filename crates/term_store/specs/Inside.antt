-- What the fields of a store keep.
use Rattle.std.specs.Prelude.{◌≡◌, ℕ, ◌<◌, ◌+◌, ◌-◌, ◌^◌, min, List, length, map, get_or, Some}
use Rattle.std.specs.BTreeMap.{BTreeMap, get}
use Rattle.term_nodes.specs.declared.node.Node.{Node}
use Rattle.term_store.specs.declared.entry.Entry.{Entry}
use Rattle.term_nodes.specs.declared.key.Key.{Key}
use Rattle.slang_values.specs.Tree.{Tree}
use Rattle.slang_values.specs.Measure.{total_nodes, greatest_height}
use Rattle.term_trees.specs.Term.{trees_of}
use Rattle.term_store.specs.declared.measure.Measure.{Measure}
use Rattle.term_nodes.specs.Node.{tree_of}
use Rattle.term_store.specs.Store.{IsStore, IsMeasureOf, stored}
use Rattle.term_nodes.specs.Key.{key_data, node_data, key_cmp}

abbrev pub nodes_in : List Entry → List Node
nodes_in entries = map (λ e. e.node) entries

-- each entry has the measure of the tree at its place
pub record AreMeasured (ts : List (Tree ℕ)) (entries : List Entry) : Type 0 where
  pub at : (k : ℕ) (d : Entry) → k < length entries → IsMeasureOf (tree_of ts k) (get_or entries k d).measure

-- the measure of a node over these parts
pub record IsMeasureOver (ps : List (Tree ℕ)) (m : Measure) : Type 0 where
  pub nodes : m.nodes ≡ min (total_nodes (trees_of ps) + 1) (2 ^ 32 - 1)
  pub height : m.height ≡ min (greatest_height (trees_of ps) + 1) (2 ^ 32 - 1)

-- The map has exactly the nodes of the store, each with its number.
pub record IsIndexOf (store : List Node) (places : BTreeMap Key ℕ) : Type 0 where
  pub sound : (q : Key) (k : ℕ) → get key_cmp places q ≡ Some k → k < length store
  pub exact : (q : Key) (k : ℕ) (d : Node) → get key_cmp places q ≡ Some k → key_data q ≡ node_data (get_or store k d)
  pub complete : (q : Key) (k : ℕ) (d : Node) → k < length store → key_data q ≡ node_data (get_or store k d) → get key_cmp places q ≡ Some k

pub record IsWhole (entries : List Entry) (places : BTreeMap Key ℕ) : Type 0 where
  pub store : IsStore (nodes_in entries)
  pub measured : AreMeasured (stored (nodes_in entries)) entries
  pub index : IsIndexOf (nodes_in entries) places
