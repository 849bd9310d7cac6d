-- Which claims can be read: each variable is there, and each sequence that is written out has elements of a sort.
use Rattle.std.specs.Prelude.{◌≡◌, ℕ, ◌<◌, Bool, true, Option, Some, None, ⊤}
use Rattle.slang_values.specs.Tree.{Tree, literal, truth_literal, name, bound, unary, binary, update, quantified, listed, Trees, no_trees, tree_then, Listed, sequence_of, record_of}
use Rattle.program_trees.specs.Claims.{ClaimName, variable, old_variable, let_symbol, ClaimTree}
use Rattle.leg_sorts.specs.Sorts.{has_sort}

-- the name that the tree is, where it is one
abbrev pub name_in : {A : Type 0} → Tree A → Option A
name_in (literal z) = None
name_in (truth_literal b) = None
name_in (name a) = Some a
name_in (bound n) = None
name_in (unary op a) = None
name_in (binary op a b) = None
name_in (update a i x) = None
name_in (quantified q low high body) = None
name_in (listed l ts) = None

-- the variable is below the count
abbrev pub IsWithin : ℕ → ClaimName ℕ → Type 0
IsWithin count (variable x) = x < count
IsWithin count (old_variable x) = x < count
IsWithin count (let_symbol label) = ⊤

abbrev pub front_has_sort : Listed → Bool
front_has_sort (sequence_of t) = has_sort t
front_has_sort (record_of n) = true

-- what stands in front of the tree's parts has a sort
abbrev pub top_has_sort : {A : Type 0} → Tree A → Bool
top_has_sort (literal z) = true
top_has_sort (truth_literal b) = true
top_has_sort (name a) = true
top_has_sort (bound n) = true
top_has_sort (unary op a) = true
top_has_sort (binary op a b) = true
top_has_sort (update a i x) = true
top_has_sort (quantified q low high body) = true
top_has_sort (listed l ts) = front_has_sort l

abbrev mutual
  pub IsReadable : ℕ → ClaimTree ℕ → Type 0
  IsReadable count (literal z) = ⊤
  IsReadable count (truth_literal b) = ⊤
  IsReadable count (name a) = IsWithin count a
  IsReadable count (bound n) = ⊤
  IsReadable count (unary op a) = IsReadable count a
  IsReadable count (binary op a b) = IsReadable count a × IsReadable count b
  IsReadable count (update a i x) = IsReadable count a × IsReadable count i × IsReadable count x
  IsReadable count (quantified q low high body) = IsReadable count low × IsReadable count high × IsReadable count body
  IsReadable count (listed l ts) = (front_has_sort l ≡ true) × AreReadable count ts

  pub AreReadable : ℕ → Trees (ClaimName ℕ) → Type 0
  AreReadable count no_trees = ⊤
  AreReadable count (tree_then t ts) = IsReadable count t × AreReadable count ts
