-- Which literals cannot hold together, as they stand; and in which trees all numbers have a form within the limit.
use Rattle.std.specs.Prelude.{ℕ, List, Bool, true, false, not, ◌&&◌, ◌||◌, if◌then◌else◌}
use Rattle.std.specs.List.{list_all, list_any}
use Rattle.std.specs.Ordering.{is_eq}
use Rattle.slang_values.specs.Value.{number_type, same_type, Records}
use Rattle.slang_values.specs.Tree.{Tree, literal, truth_literal, name, bound, unary, binary, update, quantified, listed, Trees, no_trees, tree_then}
use Rattle.slang_values.specs.Typing.{NameTypes, type_of}
use Rattle.slang_values.specs.declared.operators.Unary.{Unary}
use Rattle.tree_forms.specs.Order.{tree_cmp}
use Rattle.tree_forms.specs.Canonical.{canonical}
use Rattle.tree_forms.specs.Form.{is_narrow}

-- ---- closed by literals

-- the tree is that truth value, as it stands
abbrev pub is_truth : Bool → Tree ℕ → Bool
is_truth true (truth_literal b) = b
is_truth false (truth_literal b) = not b
is_truth b t = false

-- what stands under a negation; any other tree is none
abbrev pub is_negation_with : (Tree ℕ → Bool) → Tree ℕ → Bool
is_negation_with test (unary Unary.Not a) = test a
is_negation_with test t = false

-- `F`, or `Not T`
abbrev pub is_false : Tree ℕ → Bool
is_false t = is_truth false t || is_negation_with (is_truth true) t

-- the trees are equal once each number in them is the term of its form
abbrev pub are_alike : Records → NameTypes ℕ → Tree ℕ → Tree ℕ → Bool
are_alike records types s t = is_eq (tree_cmp (canonical records types s) (canonical records types t))

-- t is the negation of s, but for the forms of its numbers
abbrev pub is_opposite : Records → NameTypes ℕ → Tree ℕ → Tree ℕ → Bool
is_opposite records types s t = is_negation_with (are_alike records types s) t

-- a literal is false, or two of them are opposites
abbrev pub closed_by_literals : Records → NameTypes ℕ → List (Tree ℕ) → Bool
closed_by_literals records types literals =
    list_any is_false literals || list_any (λ s. list_any (is_opposite records types s) literals) literals

-- ---- numbers within the limit

abbrev mutual
  -- Each number in the tree that stands outside the bodies of its quantifiers has a form, as has each part of it at any depth.
  pub is_narrow_outside : Records → NameTypes ℕ → Tree ℕ → Bool
  is_narrow_outside records types (literal z) = is_narrow (literal z)
  is_narrow_outside records types (truth_literal b) = true
  is_narrow_outside records types (name n) = true
  is_narrow_outside records types (bound n) = true
  is_narrow_outside records types (unary op a) =
      if same_type (type_of records types (unary op a)) number_type then is_narrow (unary op a) else is_narrow_outside records types a
  is_narrow_outside records types (binary op a b) =
      if same_type (type_of records types (binary op a b)) number_type then is_narrow (binary op a b)
      else (is_narrow_outside records types a && is_narrow_outside records types b)
  is_narrow_outside records types (update a i x) =
      is_narrow_outside records types a && is_narrow_outside records types i && is_narrow_outside records types x
  is_narrow_outside records types (quantified q low high body) = is_narrow_outside records types low && is_narrow_outside records types high
  is_narrow_outside records types (listed l ts) = are_narrow_outside records types ts

  pub are_narrow_outside : Records → NameTypes ℕ → Trees ℕ → Bool
  are_narrow_outside records types no_trees = true
  are_narrow_outside records types (tree_then t ts) = is_narrow_outside records types t && are_narrow_outside records types ts

-- each number of the literals has a form, inside the bodies of quantifiers too
abbrev pub are_all_narrow : List (Tree ℕ) → Bool
are_all_narrow literals = list_all is_narrow literals
