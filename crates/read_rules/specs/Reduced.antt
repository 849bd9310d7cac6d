-- Fields of records and sizes of sequences that are written out, reduced.
use Rattle.std.specs.Prelude.{ℕ, zero, suc, pos}
use Rattle.slang_values.specs.Tree.{Tree, literal, truth_literal, name, bound, unary, binary, update, quantified, listed, Trees, no_trees, tree_then, sequence_of, record_of}
use Rattle.slang_values.specs.declared.operators.Unary.{Unary}
use Rattle.slang_values.specs.declared.operators.Binary.{Binary}

abbrev pub trees_length : Trees ℕ → ℕ
trees_length no_trees = 0
trees_length (tree_then t ts) = suc (trees_length ts)

-- the tree at that place, from 0, and past the end the given one
abbrev pub tree_at_place : Trees ℕ → ℕ → Tree ℕ → Tree ℕ
tree_at_place no_trees k past = past
tree_at_place (tree_then t ts) zero past = t
tree_at_place (tree_then t ts) (suc k) past = tree_at_place ts k past

-- The size of a reduced sequence: that of an update is the size of what is updated, an append has one element more, and a list of
-- elements has as many as it has.
abbrev pub size_of_binary : Binary → Tree ℕ → Tree ℕ → Tree ℕ → Tree ℕ
size_of_binary Binary.Append a x below = binary Binary.Add below (literal (pos 1))
size_of_binary op a x below = unary Unary.Size (binary op a x)

abbrev pub size_tree : Tree ℕ → Tree ℕ
size_tree (literal z) = unary Unary.Size (literal z)
size_tree (truth_literal b) = unary Unary.Size (truth_literal b)
size_tree (name n) = unary Unary.Size (name n)
size_tree (bound n) = unary Unary.Size (bound n)
size_tree (unary op a) = unary Unary.Size (unary op a)
size_tree (binary op a x) = size_of_binary op a x (size_tree a)
size_tree (update a i x) = size_tree a
size_tree (quantified q low high body) = unary Unary.Size (quantified q low high body)
size_tree (listed (sequence_of t) ts) = literal (pos (trees_length ts))
size_tree (listed (record_of n) ts) = unary Unary.Size (listed (record_of n) ts)

-- the field of a reduced record
abbrev pub field_tree : ℕ → Tree ℕ → Tree ℕ
field_tree k (listed (record_of n) ts) = tree_at_place ts k (unary (Unary.Field k) (listed (record_of n) ts))
field_tree k t = unary (Unary.Field k) t

abbrev pub unary_tree : Unary → Tree ℕ → Tree ℕ
unary_tree Unary.Size a = size_tree a
unary_tree (Unary.Field k) a = field_tree k a
unary_tree op a = unary op a

abbrev mutual
  -- The tree with each field of a written record and each size of an update, an append or a list of elements reduced, inside the
  -- bodies of quantifiers too. The parts come first, so none is left.
  pub reduced : Tree ℕ → Tree ℕ
  reduced (literal z) = literal z
  reduced (truth_literal b) = truth_literal b
  reduced (name n) = name n
  reduced (bound n) = bound n
  reduced (unary op a) = unary_tree op (reduced a)
  reduced (binary op a b) = binary op (reduced a) (reduced b)
  reduced (update a i x) = update (reduced a) (reduced i) (reduced x)
  reduced (quantified q low high body) = quantified q (reduced low) (reduced high) (reduced body)
  reduced (listed l ts) = listed l (all_reduced ts)

  pub all_reduced : Trees ℕ → Trees ℕ
  all_reduced no_trees = no_trees
  all_reduced (tree_then t ts) = tree_then (reduced t) (all_reduced ts)
