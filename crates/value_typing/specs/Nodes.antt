-- The nodes of a value of the program are numbered from its first one on.
use Rattle.std.specs.Prelude.{ℕ, ◌+◌, ◌<◌, length}
use Rattle.std.specs.List.{AllByRecursion}
use Rattle.slang_tree.specs.ExprTree.{ExprTree}
use Rattle.slang_tree.specs.DeclTree.{ConstTree}
use Rattle.typed_programs.specs.Parts.{expr_nodes}
use Rattle.type_rules.specs.Meanings.{Scope}
use Rattle.typed_texts.specs.Values.{Value, value_of_tree, constant_of_tree}

-- each node has a place
abbrev pub HasPlaces : Value → Type 0
HasPlaces value = (node : ℕ) → AllByRecursion (λ n. n < node + length value.places) (expr_nodes (value.from node))

abbrev pub ValuesHavePlaces : Type 0
ValuesHavePlaces = (scope : Scope) (tree : ExprTree) → HasPlaces (value_of_tree scope tree)

abbrev pub ConstantsHavePlaces : Type 0
ConstantsHavePlaces = (scope : Scope) (tree : ConstTree) → HasPlaces (constant_of_tree scope tree)
