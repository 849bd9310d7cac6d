-- What holds of runs that may stop, as one statement each.
use Rattle.std.specs.Prelude.{◌≡◌, ℕ, ◌+◌, List}
use Rattle.slang_values.specs.Value.{Value}
use Rattle.program_trees.specs.declared.answer.Kind.{Kind}
use Rattle.program_trees.specs.Programs.{MethodTree, ProgramTree}
use Rattle.program_trees.specs.Variables.{Variable}
use Rattle.run_rules.specs.Runs.{Outcome, fails, IsStart, IsSafe}
use Rattle.run_rules.specs.Runs as unstopped
use Rattle.stopped_runs.specs.Runs.{reached, run, more}

-- A run that has not stopped is the run that never stops: it has ended with the same values, is going from the same place, or has failed alike.
abbrev pub StopsKeepRuns : Type 0
StopsKeepRuns =
    (limit : ℕ) (program : ProgramTree Variable) (method : MethodTree Variable) (arguments : List Value) (globals : ℕ → Value) (n : ℕ) (outcome : Outcome) →
    run limit program method arguments globals n ≡ reached outcome → unstopped.run program method arguments globals n ≡ outcome

-- A run of some turns that is given more turns is the run of their sum.
abbrev pub TurnsInParts : Type 0
TurnsInParts =
    (limit : ℕ) (program : ProgramTree Variable) (method : MethodTree Variable) (arguments : List Value) (globals : ℕ → Value) (a b : ℕ) →
    run limit program method arguments globals (a + b) ≡ more limit program b (run limit program method arguments globals a)

-- No run of a safe method fails, from a state that meets its Requires.
abbrev pub SafeMethodsDoNotFail : Type 0
SafeMethodsDoNotFail =
    (limit : ℕ) (program : ProgramTree Variable) (method : MethodTree Variable) (arguments : List Value) (globals : ℕ → Value) (n : ℕ) (kind : Kind)
    (node : ℕ) → IsSafe program method → IsStart program method arguments globals → run limit program method arguments globals n ≡ reached (fails kind node) → ⊥
