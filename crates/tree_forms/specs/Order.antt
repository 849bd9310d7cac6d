-- The order of trees: by kind, then by the number or the type in the node, then by the parts.
use Rattle.std.specs.Prelude.{ℕ, suc, ℤ, pos, List, [], ◌∷◌, true, false, Option, Some, None}
use Rattle.std.specs.declared.cmp.Ordering.{Ordering}
use Rattle.std.specs.declared.cmp.Ordering.TheVariants.{Less, Equal, Greater}
use Rattle.std.specs.Ordering.{ordering_then, nat_cmp, int_cmp, on, then_cmp}
use Rattle.std.specs.Option.{option_cmp}
use Rattle.std.specs.Cmp.Lexicographic.{slice_cmp}
use Rattle.slang_values.specs.Value.{ValueType, unit_type, number_type, truth_type, sequence_type, record_type}
use Rattle.slang_values.specs.Tree.{Tree, literal, truth_literal, name, bound, unary, binary, update, quantified, listed, Trees, no_trees, tree_then, sequence_of, record_of}
use Rattle.slang_values.specs.declared.operators.Unary.{Unary}
use Rattle.slang_values.specs.declared.operators.Binary.{Binary}
use Rattle.slang_values.specs.declared.operators.Quantifier.{Quantifier}

-- ---- the kinds in their order, from 0 to 26

abbrev pub unary_kind : Unary → ℕ
unary_kind Unary.Neg = 5
unary_kind Unary.Not = 6
unary_kind Unary.Size = 18
unary_kind (Unary.Field k) = 24

abbrev pub binary_kind : Binary → ℕ
binary_kind Binary.Add = 7
binary_kind Binary.Sub = 8
binary_kind Binary.Mul = 9
binary_kind Binary.Div = 10
binary_kind Binary.Rem = 11
binary_kind Binary.And = 12
binary_kind Binary.Or = 13
binary_kind Binary.Imply = 14
binary_kind Binary.Eq = 15
binary_kind Binary.Lt = 16
binary_kind Binary.Le = 17
binary_kind Binary.Read = 19
binary_kind Binary.Append = 21

abbrev pub quantifier_kind : Quantifier → ℕ
quantifier_kind Quantifier.All = 25
quantifier_kind Quantifier.Exists = 26

abbrev pub kind : Tree ℕ → ℕ
kind (literal z) = 0
kind (truth_literal true) = 1
kind (truth_literal false) = 2
kind (name n) = 3
kind (bound n) = 4
kind (unary op a) = unary_kind op
kind (binary op a b) = binary_kind op
kind (update a i x) = 20
kind (quantified q low high body) = quantifier_kind q
kind (listed (sequence_of t) ts) = 22
kind (listed (record_of n) ts) = 23

-- ---- the number or the type in a node

abbrev pub unary_number : Unary → Option ℤ
unary_number Unary.Neg = None
unary_number Unary.Not = None
unary_number Unary.Size = None
unary_number (Unary.Field k) = Some (pos k)

abbrev pub number_in : Tree ℕ → Option ℤ
number_in (literal z) = Some z
number_in (truth_literal b) = None
number_in (name n) = Some (pos n)
number_in (bound n) = Some (pos n)
number_in (unary op a) = unary_number op
number_in (binary op a b) = None
number_in (update a i x) = None
number_in (quantified q low high body) = None
number_in (listed (sequence_of t) ts) = None
number_in (listed (record_of n) ts) = Some (pos n)

-- A type as numbers, so that numbers come before truth values, then sequences, by their elements, and then records, by their numbers.
abbrev pub type_numbers : ValueType → List ℕ
type_numbers number_type = 0 ∷ []
type_numbers truth_type = 1 ∷ []
type_numbers (sequence_type t) = 2 ∷ type_numbers t
type_numbers (record_type n) = 3 ∷ n ∷ []
type_numbers unit_type = 4 ∷ []

abbrev pub type_in : Tree ℕ → List ℕ
type_in (literal z) = []
type_in (truth_literal b) = []
type_in (name n) = []
type_in (bound n) = []
type_in (unary op a) = []
type_in (binary op a b) = []
type_in (update a i x) = []
type_in (quantified q low high body) = []
type_in (listed (sequence_of t) ts) = type_numbers t
type_in (listed (record_of n) ts) = []

-- what a node is without its parts
pub record Head : Type 0 where
  pub kind : ℕ
  pub number : Option ℤ
  pub type_numbers : List ℕ

abbrev pub head : Tree ℕ → Head
head t = record { kind = kind t; number = number_in t; type_numbers = type_in t }

abbrev pub head_cmp : Head → Head → Ordering
head_cmp = then_cmp (on (λ h. h.kind) nat_cmp) (then_cmp (on (λ h. h.number) (option_cmp int_cmp)) (on (λ h. h.type_numbers) (slice_cmp nat_cmp)))

-- ---- the order

-- a tree as the order sees it: each node with its head and its parts
mutual
  pub data Node : Type 0 where
    node : Head → Nodes → Node

  pub data Nodes : Type 0 where
    no_nodes : Nodes
    node_then : Node → Nodes → Nodes

abbrev pub node_length : Nodes → ℕ
node_length no_nodes = 0
node_length (node_then n ns) = suc (node_length ns)

abbrev mutual
  pub nodes_of : Tree ℕ → Nodes
  nodes_of (literal z) = no_nodes
  nodes_of (truth_literal b) = no_nodes
  nodes_of (name n) = no_nodes
  nodes_of (bound n) = no_nodes
  nodes_of (unary op a) = node_then (node (head a) (nodes_of a)) no_nodes
  nodes_of (binary op a b) = node_then (node (head a) (nodes_of a)) (node_then (node (head b) (nodes_of b)) no_nodes)
  nodes_of (update a i x) =
      node_then (node (head a) (nodes_of a)) (node_then (node (head i) (nodes_of i)) (node_then (node (head x) (nodes_of x)) no_nodes))
  nodes_of (quantified q low high body) =
      node_then (node (head low) (nodes_of low)) (node_then (node (head high) (nodes_of high)) (node_then (node (head body) (nodes_of body)) no_nodes))
  nodes_of (listed l ts) = all_nodes ts

  pub all_nodes : Trees ℕ → Nodes
  all_nodes no_trees = no_nodes
  all_nodes (tree_then t ts) = node_then (node (head t) (nodes_of t)) (all_nodes ts)

abbrev pub node_of : Tree ℕ → Node
node_of t = node (head t) (nodes_of t)

abbrev mutual
  -- by the heads, then the one with fewer parts first, then by the parts from the left
  pub node_cmp : Node → Node → Ordering
  node_cmp (node h ps) (node g qs) =
      ordering_then (head_cmp h g) (ordering_then (nat_cmp (node_length ps) (node_length qs)) (nodes_cmp ps qs))

  pub nodes_cmp : Nodes → Nodes → Ordering
  nodes_cmp no_nodes no_nodes = Equal
  nodes_cmp no_nodes (node_then q qs) = Less
  nodes_cmp (node_then p ps) no_nodes = Greater
  nodes_cmp (node_then p ps) (node_then q qs) = ordering_then (node_cmp p q) (nodes_cmp ps qs)

abbrev pub tree_cmp : Tree ℕ → Tree ℕ → Ordering
tree_cmp s t = node_cmp (node_of s) (node_of t)
