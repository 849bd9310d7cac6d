-- Instances that were added, by their trees.
use Rattle.std.specs.Prelude.{◌≡◌, ℕ, ◌<◌, List, ◌++◌, length, Bool, true, false}
use Rattle.slang_values.specs.Tree.{Tree}
use Rattle.instance_rules.specs.Instances.{lacking, instance_limit}

-- behind those that were added, what the facts and they lack of ts
abbrev pub with_lacking : List (Tree ℕ) → List (Tree ℕ) → List (Tree ℕ) → List (Tree ℕ)
with_lacking facts old ts = old ++ lacking (facts ++ old) ts

-- all of ts were added, or there are too many
abbrev pub IsAddedTo : List (Tree ℕ) → List (Tree ℕ) → List (Tree ℕ) → Bool → List (Tree ℕ) → Type 0
IsAddedTo facts old ts true new = new ≡ with_lacking facts old ts
IsAddedTo facts old ts false new = instance_limit < length (with_lacking facts old ts)
