-- What stands under a negation.
use Rattle.std.specs.Prelude.{ℕ, List, [], ◌∷◌}
use Rattle.slang_values.specs.Tree.{Tree, unary}
use Rattle.slang_values.specs.declared.operators.Unary.{Unary}

-- what stands under the negation, if the tree is one
abbrev pub denied : Tree ℕ → List (Tree ℕ)
denied (unary Unary.Not a) = a ∷ []
denied t = []
