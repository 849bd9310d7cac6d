-- How deep several constants are.
use Rattle.std.specs.Prelude.{ℕ, max, List, [], ◌∷◌}
use Rattle.slang_tree.specs.declared.declaration.Const.{Const, size-Const}

abbrev pub deepest : List Const → ℕ
deepest [] = 0
deepest (constant ∷ constants) = max (size-Const constant) (deepest constants)
