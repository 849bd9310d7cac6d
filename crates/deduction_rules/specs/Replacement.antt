-- Symbols in trees, and one tree in place of another.
use Rattle.std.specs.Prelude.{ℕ, Bool, false, ◌||◌, if◌then◌else◌}
use Rattle.std.specs.Ordering.{is_eq}
use Rattle.slang_values.specs.Tree.{Tree, literal, truth_literal, name, bound, unary, binary, update, quantified, listed, Trees, no_trees, tree_then}
use Rattle.tree_forms.specs.Order.{tree_cmp}

abbrev pub same_tree : Tree ℕ → Tree ℕ → Bool
same_tree s t = is_eq (tree_cmp s t)

-- ---- symbols

abbrev mutual
  -- some symbol in the tree passes the test
  pub has_symbol : (ℕ → Bool) → Tree ℕ → Bool
  has_symbol test (literal z) = false
  has_symbol test (truth_literal b) = false
  has_symbol test (name n) = test n
  has_symbol test (bound n) = false
  has_symbol test (unary op a) = has_symbol test a
  has_symbol test (binary op a b) = has_symbol test a || has_symbol test b
  has_symbol test (update a i x) = has_symbol test a || has_symbol test i || has_symbol test x
  has_symbol test (quantified q low high body) = has_symbol test low || has_symbol test high || has_symbol test body
  has_symbol test (listed l ts) = have_symbol test ts

  pub have_symbol : (ℕ → Bool) → Trees ℕ → Bool
  have_symbol test no_trees = false
  have_symbol test (tree_then t ts) = has_symbol test t || have_symbol test ts

-- ---- replacement

abbrev mutual
  -- The tree with `by` in place of each `old`, from the top down: nothing is replaced inside what was put in.
  pub replaced : Tree ℕ → Tree ℕ → Tree ℕ → Tree ℕ
  replaced old by (literal z) = if same_tree old (literal z) then by else literal z
  replaced old by (truth_literal b) = if same_tree old (truth_literal b) then by else truth_literal b
  replaced old by (name n) = if same_tree old (name n) then by else name n
  replaced old by (bound n) = if same_tree old (bound n) then by else bound n
  replaced old by (unary op a) = if same_tree old (unary op a) then by else unary op (replaced old by a)
  replaced old by (binary op a b) = if same_tree old (binary op a b) then by else binary op (replaced old by a) (replaced old by b)
  replaced old by (update a i x) =
      if same_tree old (update a i x) then by else update (replaced old by a) (replaced old by i) (replaced old by x)
  replaced old by (quantified q low high body) =
      if same_tree old (quantified q low high body) then by else quantified q (replaced old by low) (replaced old by high) (replaced old by body)
  replaced old by (listed l ts) = if same_tree old (listed l ts) then by else listed l (all_replaced old by ts)

  pub all_replaced : Tree ℕ → Tree ℕ → Trees ℕ → Trees ℕ
  all_replaced old by no_trees = no_trees
  all_replaced old by (tree_then t ts) = tree_then (replaced old by t) (all_replaced old by ts)
