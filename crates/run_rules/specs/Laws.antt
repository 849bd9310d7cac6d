-- What holds of runs, as one statement each.
use Rattle.std.specs.Prelude.{◌≡◌, ℕ, ◌+◌, List}
use Rattle.slang_values.specs.Value.{Value}
use Rattle.program_trees.specs.Programs.{MethodTree, ProgramTree}
use Rattle.program_trees.specs.Variables.{Variable}
use Rattle.run_rules.specs.Runs.{more, run}

-- A run of some turns that is given more turns is the run of their sum.
abbrev pub TurnsInParts : Type 0
TurnsInParts =
    (program : ProgramTree Variable) (method : MethodTree Variable) (arguments : List Value) (globals : ℕ → Value) (a b : ℕ) →
    run program method arguments globals (a + b) ≡ more program b (run program method arguments globals a)
