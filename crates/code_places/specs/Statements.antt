-- What the statement of a number is.
use Rattle.std.specs.Prelude.{◌≡◌, ℕ, Option, Some, None}
use Rattle.std.specs.Borrow.{Bor}
use Rattle.program_trees.specs.Programs.{CodeTrees}
use Rattle.lk_programs.specs.declared.program.Code.{Code}
use Rattle.lk_programs.specs.Program.{code_tree}
use Rattle.code_paths.specs.Places.{nth_statement}

-- the statement of that number, exactly where there is one
abbrev pub IsStatement : CodeTrees ℕ → ℕ → Option (Bor Code) → Type 0
IsStatement codes n None = nth_statement codes n ≡ None
IsStatement codes n (Some code) = nth_statement codes n ≡ Some (code_tree code.now)
