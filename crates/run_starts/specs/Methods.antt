-- The method of a name.
use Rattle.std.specs.Prelude.{◌≡◌, ℕ, ◌<◌, List, length}
use Rattle.program_trees.specs.Programs.{ProgramTree}
use Rattle.program_trees.specs.Variables.{Variable}
use Rattle.run_rules.specs.Runs.{method_at}

-- there is a method of that number, and it has this name
abbrev pub HasName : ProgramTree Variable → ℕ → List ℕ → Type 0
HasName program number name = (number < length program.methods) × ((method_at program number).name ≡ name)
