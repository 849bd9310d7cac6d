-- The numbers by which sorts are ordered.
use Rattle.std.specs.Prelude.{ℕ, List, [], Option, Some, None}
use Rattle.std.specs.Borrow.{Bor}
use Rattle.term_trees.specs.declared.term.Sort.{Sort}
use Rattle.term_trees.specs.Term.{sort_type}
use Rattle.tree_forms.specs.Order.{type_numbers}

abbrev pub numbers_of : Option (Bor Sort) → List ℕ
numbers_of None = []
numbers_of (Some s) = type_numbers (sort_type s.now)
