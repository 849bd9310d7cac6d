-- What a node is: the tree that it makes of the trees of its parts, and the numbers of these parts.
use Rattle.std.specs.Prelude.{◌≡◌, ℕ, List, [], ◌∷◌, map, get_or, true, false}
use Rattle.slang_values.specs.Tree.{Tree, literal, truth_literal, name, bound, unary, binary, update, quantified, listed, sequence_of, record_of}
use Rattle.slang_values.specs.declared.operators.Unary.{Unary}
use Rattle.slang_values.specs.declared.operators.Binary.{Binary}
use Rattle.slang_values.specs.declared.operators.Quantifier.{Quantifier}
use Rattle.tree_forms.specs.Order.{Head, head}
use Rattle.term_trees.specs.Term.{sort_type, trees_of}
use Rattle.term_nodes.specs.declared.node.Node.{Node}
use Rattle.term_nodes.specs.declared.node.NodeShape.{NodeShape}

-- the tree with that number; a number beyond the list, which no node of a store has, stands for `T`
abbrev pub tree_of : List (Tree ℕ) → ℕ → Tree ℕ
tree_of ts k = get_or ts k (truth_literal true)

-- the tree of a node, where ts are the trees of the numbers
abbrev pub node_tree : List (Tree ℕ) → Node → Tree ℕ
node_tree ts (Node.Lit z) = literal z
node_tree ts Node.True = truth_literal true
node_tree ts Node.False = truth_literal false
node_tree ts (Node.Symbol n) = name n
node_tree ts (Node.Bound n) = bound n
node_tree ts (Node.Neg a) = unary Unary.Neg (tree_of ts a)
node_tree ts (Node.Not a) = unary Unary.Not (tree_of ts a)
node_tree ts (Node.Add a b) = binary Binary.Add (tree_of ts a) (tree_of ts b)
node_tree ts (Node.Sub a b) = binary Binary.Sub (tree_of ts a) (tree_of ts b)
node_tree ts (Node.Mul a b) = binary Binary.Mul (tree_of ts a) (tree_of ts b)
node_tree ts (Node.Div a b) = binary Binary.Div (tree_of ts a) (tree_of ts b)
node_tree ts (Node.Rem a b) = binary Binary.Rem (tree_of ts a) (tree_of ts b)
node_tree ts (Node.And a b) = binary Binary.And (tree_of ts a) (tree_of ts b)
node_tree ts (Node.Or a b) = binary Binary.Or (tree_of ts a) (tree_of ts b)
node_tree ts (Node.Imply a b) = binary Binary.Imply (tree_of ts a) (tree_of ts b)
node_tree ts (Node.Eq a b) = binary Binary.Eq (tree_of ts a) (tree_of ts b)
node_tree ts (Node.Lt a b) = binary Binary.Lt (tree_of ts a) (tree_of ts b)
node_tree ts (Node.Le a b) = binary Binary.Le (tree_of ts a) (tree_of ts b)
node_tree ts (Node.Size a) = unary Unary.Size (tree_of ts a)
node_tree ts (Node.Read a b) = binary Binary.Read (tree_of ts a) (tree_of ts b)
node_tree ts (Node.Update a i x) = update (tree_of ts a) (tree_of ts i) (tree_of ts x)
node_tree ts (Node.Append a b) = binary Binary.Append (tree_of ts a) (tree_of ts b)
node_tree ts (Node.SeqLit s ks) = listed (sequence_of (sort_type s)) (trees_of (map (tree_of ts) ks))
node_tree ts (Node.Rec n ks) = listed (record_of n) (trees_of (map (tree_of ts) ks))
node_tree ts (Node.Field a k) = unary (Unary.Field k) (tree_of ts a)
node_tree ts (Node.All low high body) = quantified Quantifier.All (tree_of ts low) (tree_of ts high) (tree_of ts body)
node_tree ts (Node.Exists low high body) = quantified Quantifier.Exists (tree_of ts low) (tree_of ts high) (tree_of ts body)

-- the numbers of the parts, from the left
abbrev pub numbers : Node → List ℕ
numbers (Node.Lit z) = []
numbers Node.True = []
numbers Node.False = []
numbers (Node.Symbol n) = []
numbers (Node.Bound n) = []
numbers (Node.Neg a) = a ∷ []
numbers (Node.Not a) = a ∷ []
numbers (Node.Add a b) = a ∷ b ∷ []
numbers (Node.Sub a b) = a ∷ b ∷ []
numbers (Node.Mul a b) = a ∷ b ∷ []
numbers (Node.Div a b) = a ∷ b ∷ []
numbers (Node.Rem a b) = a ∷ b ∷ []
numbers (Node.And a b) = a ∷ b ∷ []
numbers (Node.Or a b) = a ∷ b ∷ []
numbers (Node.Imply a b) = a ∷ b ∷ []
numbers (Node.Eq a b) = a ∷ b ∷ []
numbers (Node.Lt a b) = a ∷ b ∷ []
numbers (Node.Le a b) = a ∷ b ∷ []
numbers (Node.Size a) = a ∷ []
numbers (Node.Read a b) = a ∷ b ∷ []
numbers (Node.Update a i x) = a ∷ i ∷ x ∷ []
numbers (Node.Append a b) = a ∷ b ∷ []
numbers (Node.SeqLit s ks) = ks
numbers (Node.Rec n ks) = ks
numbers (Node.Field a k) = a ∷ []
numbers (Node.All low high body) = low ∷ high ∷ body ∷ []
numbers (Node.Exists low high body) = low ∷ high ∷ body ∷ []

-- what the node is without its parts
abbrev pub node_head : Node → Head
node_head n = head (node_tree [] n)

-- ---- a node by its operator and its numbers

abbrev pub shape_tree : List (Tree ℕ) → NodeShape → Tree ℕ
shape_tree ts (NodeShape.Literal z) = literal z
shape_tree ts (NodeShape.Truth b) = truth_literal b
shape_tree ts (NodeShape.Symbol n) = name n
shape_tree ts (NodeShape.Bound n) = bound n
shape_tree ts (NodeShape.Unary op a) = unary op (tree_of ts a)
shape_tree ts (NodeShape.Binary op a b) = binary op (tree_of ts a) (tree_of ts b)
shape_tree ts (NodeShape.Update a i x) = update (tree_of ts a) (tree_of ts i) (tree_of ts x)
shape_tree ts (NodeShape.Quantified q low high body) = quantified q (tree_of ts low) (tree_of ts high) (tree_of ts body)
shape_tree ts (NodeShape.Sequence s ks) = listed (sequence_of (sort_type s.now)) (trees_of (map (tree_of ts) ks.now))
shape_tree ts (NodeShape.Record n ks) = listed (record_of n) (trees_of (map (tree_of ts) ks.now))

abbrev pub shape_numbers : NodeShape → List ℕ
shape_numbers (NodeShape.Literal z) = []
shape_numbers (NodeShape.Truth b) = []
shape_numbers (NodeShape.Symbol n) = []
shape_numbers (NodeShape.Bound n) = []
shape_numbers (NodeShape.Unary op a) = a ∷ []
shape_numbers (NodeShape.Binary op a b) = a ∷ b ∷ []
shape_numbers (NodeShape.Update a i x) = a ∷ i ∷ x ∷ []
shape_numbers (NodeShape.Quantified q low high body) = low ∷ high ∷ body ∷ []
shape_numbers (NodeShape.Sequence s ks) = ks.now
shape_numbers (NodeShape.Record n ks) = ks.now

-- the shape is that of the node
pub record IsShapeOf (n : Node) (s : NodeShape) : Type 0 where
  pub tree : (ts : List (Tree ℕ)) → node_tree ts n ≡ shape_tree ts s
  pub numbers : numbers n ≡ shape_numbers s
