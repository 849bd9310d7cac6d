-- The commands `check` and `run` on one program.
use Rattle.std.specs.Prelude.{◌≡◌, ℕ, List, ◌++◌, codes}
use Rattle.slang_values.specs.Value.{Value}
use Rattle.program_trees.specs.declared.answer.Kind.TheVariants as kinds
use Rattle.program_trees.specs.Programs.{ProgramTree}
use Rattle.program_trees.specs.Variables.{Variable}
use Rattle.run_rules.specs.Runs.{method_at, Fits}
use Rattle.typed_programs.specs.WellTyped.{IsTypedProgram}
use Rattle.verified_programs.specs.Laws.{ReachedAreVerified}
use Rattle.stopped_runs.specs.Runs.{command_run}
use Rattle.run_texts.specs.Texts.{Names, failure_text, run_text}

-- The line that a run which fails writes, where each method that calls lead to is verified, and the arguments are values of the parameters' types: it is
-- that of the method's own Requires, and it is written before any turn too.
abbrev pub VerifiedMethodsAreToldSafe : Type 0
VerifiedMethodsAreToldSafe =
    (program : ProgramTree Variable) (node_files : List ℕ) (files from : ℕ) → IsTypedProgram program node_files files → ReachedAreVerified program from →
    (names : Names) (arguments : List Value) (n : ℕ) (rest : List ℕ) → Fits program arguments (method_at program from).params →
    run_text names (command_run program (method_at program from) arguments n) ≡ codes "fails " ++ rest →
    (run_text names (command_run program (method_at program from) arguments n) ≡ failure_text names kinds.Requires (method_at program from).node)
    × (run_text names (command_run program (method_at program from) arguments 0) ≡ failure_text names kinds.Requires (method_at program from).node)
