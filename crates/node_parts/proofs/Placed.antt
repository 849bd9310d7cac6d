-- The parts of a stored term are those of its node.
use Rattle.std.proofs.Common.{◌≡◌, ℕ, zero, suc, ◌<◌, ◌≤◌, List, [], ◌∷◌, ◌++◌, map, take, length, get_or, slice_get, Some, Result, Ok, Err, OnOk, OnErr, refl, sym, ap, ◌∙◌, subst, arith}
use Rattle.std.specs.List.{All, AllByRecursion}
use Rattle.std.proofs.lemmas.List.{length-map}
use Rattle.std.proofs.lemmas.List.Elements.{All-from_recursion}
use Rattle.std.proofs.lemmas.Option.{same_Some}
use Rattle.slang_values.specs.Tree.{Tree, parts}
use Rattle.tree_forms.specs.Order.{head}
use Rattle.term_nodes.specs.declared.node.Node.{Node}
use Rattle.term_nodes.specs.declared.node.NodeShape.{NodeShape}
use Rattle.term_nodes.specs.Node.{numbers, node_head, shape_tree, shape_numbers, IsShapeOf}
use Rattle.term_nodes.proofs.Nodes.{head-node_tree, parts-node_tree}
use Rattle.term_store.specs.Store.{stored, tree_at, AreWithin, IsPlaced, Grows, GainsAtMost, nothing, the_node, AreTreesOf}
use Rattle.term_store.proofs.Stores.{Grows-itself, Grows-push}

pub grows_after : {E : Type 0} (r : Result ℕ E) (a b : List Node) (n : Node) → OnOk r (GainsAtMost n a b) → OnErr r (b ≡ a) → Grows a b
grows_after (Ok k) a b n (nothing is) h = subst (Grows a) (sym is) (Grows-itself a)
grows_after (Ok k) a b n (the_node is) h = subst (Grows a) (sym is) (Grows-push a n)
grows_after (Err e) a b n g h = subst (Grows a) (sym h) (Grows-itself a)

-- the trees of a node's parts
pub parts-placed : (store : List Node) (id : ℕ) (n : Node) → IsPlaced store id n → parts (tree_at store id) ≡ map (tree_at store) (numbers n)
parts-placed store id n h = ap parts h.tree ∙ parts-node_tree (stored store) n

pub head-placed : (store : List Node) (id : ℕ) (n : Node) → IsPlaced store id n → head (tree_at store id) ≡ node_head n
head-placed store id n h = ap head h.tree ∙ head-node_tree (stored store) n

-- the parts stand before it
pub below-placed : (store : List Node) (id : ℕ) (n : Node) → IsPlaced store id n → All (λ k. k < id) (numbers n)
below-placed store id n h = All-from_recursion (λ k. k < id) (numbers n) h.below

-- the tree of a number, by its node's shape
pub shape-tree_at : (store : List Node) (id : ℕ) (n : Node) (s : NodeShape) → IsPlaced store id n → IsShapeOf n s → tree_at store id ≡ shape_tree (stored store) s
shape-tree_at store id n s h g = h.tree ∙ g.tree (stored store)

slice_get-left : {X : Type 0} (xs ys : List X) (k : ℕ) (x : X) → slice_get xs k ≡ Some x → slice_get (xs ++ ys) k ≡ Some x
slice_get-left [] ys k x e = absurd (cc)
slice_get-left (y ∷ xs) ys zero x e = e
slice_get-left (y ∷ xs) ys (suc k) x e = slice_get-left xs ys k x e

-- a number has the node that it had
pub same_node : (old new : List Node) (id : ℕ) (n m : Node) → Grows old new → slice_get old id ≡ Some n → slice_get new id ≡ Some m → n ≡ m
same_node old new id n m g e f = same_Some n m (sym (slice_get-left old g.more id n e) ∙ sym (ap (λ ns. slice_get ns id) g.is) ∙ f)

-- as many numbers as trees
pub as_many : (store : List Node) (ids : List ℕ) (ts : List (Tree ℕ)) → AreTreesOf store ids ts → length ids ≡ length ts
as_many store ids ts h = sym (length-map ids (tree_at store)) ∙ ap length h.trees
