-- Canonical trees, by which literals are compared.
use Rattle.std.specs.Prelude.{ℕ, if◌then◌else◌}
use Rattle.slang_values.specs.Value.{Records, number_type, same_type}
use Rattle.slang_values.specs.Tree.{Tree, literal, truth_literal, name, bound, unary, binary, update, quantified, listed, Trees, no_trees, tree_then}
use Rattle.slang_values.specs.Typing.{NameTypes, type_of}
use Rattle.tree_forms.specs.Form.{form, form_term, is_narrow}

-- the term of its form, where it has one; a number that is Wide stands for itself, whole
abbrev pub canonical_number : Tree ℕ → Tree ℕ
canonical_number t = if is_narrow t then form_term (form t) else t

-- of a number t, its canonical number; of another tree, u, which is t with canonical parts
abbrev pub canonical_of : Records → NameTypes ℕ → Tree ℕ → Tree ℕ → Tree ℕ
canonical_of records types t u = if same_type (type_of records types t) number_type then canonical_number t else u

abbrev mutual
  -- the tree with each number in it, at every depth, as its canonical number
  pub canonical : Records → NameTypes ℕ → Tree ℕ → Tree ℕ
  canonical records types (literal z) = canonical_number (literal z)
  canonical records types (truth_literal b) = truth_literal b
  canonical records types (name n) = canonical_of records types (name n) (name n)
  canonical records types (bound n) = canonical_number (bound n)
  canonical records types (unary op a) = canonical_of records types (unary op a) (unary op (canonical records types a))
  canonical records types (binary op a b) =
      canonical_of records types (binary op a b) (binary op (canonical records types a) (canonical records types b))
  canonical records types (update a i x) =
      canonical_of records types (update a i x) (update (canonical records types a) (canonical records types i) (canonical records types x))
  canonical records types (quantified q low high body) =
      quantified q (canonical records types low) (canonical records types high) (canonical records types body)
  canonical records types (listed l ts) = listed l (all_canonical records types ts)

  pub all_canonical : Records → NameTypes ℕ → Trees ℕ → Trees ℕ
  all_canonical records types no_trees = no_trees
  all_canonical records types (tree_then t ts) = tree_then (canonical records types t) (all_canonical records types ts)
