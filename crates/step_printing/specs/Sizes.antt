-- How deep several steps are.
use Rattle.std.specs.Prelude.{ℕ, max, List, [], ◌∷◌}
use Rattle.slang_tree.specs.declared.statement.Step.{Step, size-Step}

abbrev pub deepest : List Step → ℕ
deepest [] = 0
deepest (step ∷ steps) = max (size-Step step) (deepest steps)
