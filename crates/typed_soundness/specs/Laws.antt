-- What holds of well-typed programs whose legs pass.
use Rattle.std.specs.Prelude.{ℕ, List}
use Rattle.program_trees.specs.Programs.{ProgramTree}
use Rattle.program_trees.specs.Variables.{Variable}
use Rattle.run_rules.specs.Runs.{method_at, IsSafe}
use Rattle.typed_programs.specs.WellTyped.{IsTypedProgram}
use Rattle.leg_soundness.specs.Passing.{ReachedLegsPass}

-- In a well-typed program, where the legs of each method pass that calls lead to from a method, no run of that method fails, of any number of turns, from
-- any state that meets its Requires.
abbrev pub TypedProgramsAreSafe : Type 0
TypedProgramsAreSafe =
    (program : ProgramTree Variable) (node_files : List ℕ) (files from : ℕ) → IsTypedProgram program node_files files → ReachedLegsPass program from →
    IsSafe program (method_at program from)
