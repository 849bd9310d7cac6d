-- What is found of two stored terms at one look.
use Rattle.std.specs.Prelude.{◌≡◌, ◌≢◌, ℕ, ◌<◌, List, [], length, take, slice_get, Option, Some, None}
use Rattle.std.specs.Borrow.{Bor}
use Rattle.tree_forms.specs.Order.{type_numbers, tree_cmp}
use Rattle.term_trees.specs.declared.term.Sort.{Sort}
use Rattle.term_trees.specs.Term.{sort_type}
use Rattle.term_nodes.specs.declared.node.Node.{Node}
use Rattle.term_store.specs.Store.{tree_at}
use Rattle.store_order.specs.declared.comparing.Compared.{Compared}
use Rattle.store_order.specs.declared.comparing.Compared.TheVariants.{Decided, AsParts}

-- the sort of a sequence's elements as numbers
abbrev pub numbers_of : Option (Bor Sort) → List ℕ
numbers_of None = []
numbers_of (Some s) = type_numbers (sort_type s.now)

-- the lists have these numbers at one place, and before it the same
pub record DifferFirst (ks js : List ℕ) (k j : ℕ) : Type 0 where
  pub at : ℕ
  pub before : take at ks ≡ take at js
  pub first : slice_get ks at ≡ Some k
  pub second : slice_get js at ≡ Some j
  pub unequal : k ≢ j

abbrev pub IsFirstDifference : List ℕ → List ℕ → Option (ℕ × ℕ) → Type 0
IsFirstDifference ks js None = ks ≡ js
IsFirstDifference ks js (Some d) = DifferFirst ks js d.0 d.1

-- the terms a and b compare as their parts k and j
pub record CompareAsParts (store : List Node) (a b k j : ℕ) : Type 0 where
  pub below : k < a
  pub first : k < length store
  pub second : j < length store
  pub same : tree_cmp (tree_at store k) (tree_at store j) ≡ tree_cmp (tree_at store a) (tree_at store b)

abbrev pub IsComparedAs : List Node → ℕ → ℕ → Compared → Type 0
IsComparedAs store a b (Decided order) = order ≡ tree_cmp (tree_at store a) (tree_at store b)
IsComparedAs store a b (AsParts k j) = CompareAsParts store a b k j
