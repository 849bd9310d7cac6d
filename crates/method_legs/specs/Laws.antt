-- What holds of the legs of typed programs, as one statement.
use Rattle.std.specs.Prelude.{ℕ, ◌<◌, List, length}
use Rattle.program_trees.specs.Programs.{ProgramTree}
use Rattle.program_trees.specs.Variables.{Variable}
use Rattle.run_rules.specs.Runs.{method_at}
use Rattle.typed_programs.specs.WellTyped.{IsTypedProgram}
use Rattle.answer_laws.specs.Laws.{HasTypedLegs}

-- The legs of each method of a well-typed program are well typed.
abbrev pub LegsAreWellTyped : Type 0
LegsAreWellTyped =
    (program : ProgramTree Variable) (node_files : List ℕ) (files : ℕ) → IsTypedProgram program node_files files →
    (number : ℕ) → number < length program.methods → HasTypedLegs program (method_at program number)
