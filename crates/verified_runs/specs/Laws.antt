-- What the verdicts on a program say of the runs of its methods that the command `run` tells of.
use Rattle.std.specs.Prelude.{◌≡◌, ℕ, List}
use Rattle.slang_values.specs.Value.{Value}
use Rattle.program_trees.specs.declared.answer.Kind.{Kind}
use Rattle.program_trees.specs.declared.answer.Kind.TheVariants as kinds
use Rattle.program_trees.specs.Programs.{ProgramTree}
use Rattle.program_trees.specs.Variables.{Variable}
use Rattle.run_rules.specs.Runs.{method_at, fails, Fits, IsStart}
use Rattle.typed_programs.specs.WellTyped.{IsTypedProgram}
use Rattle.verified_programs.specs.Laws.{ReachedAreVerified}
use Rattle.stopped_runs.specs.Runs.{reached, run, command_run}

-- Where each method that calls lead to is verified, no run fails, whatever it stops at, from a state that meets the method's Requires.
abbrev pub VerifiedRunsDoNotFail : Type 0
VerifiedRunsDoNotFail =
    (program : ProgramTree Variable) (node_files : List ℕ) (files from : ℕ) → IsTypedProgram program node_files files → ReachedAreVerified program from →
    (limit : ℕ) (arguments : List Value) (globals : ℕ → Value) (n : ℕ) (kind : Kind) (node : ℕ) →
    IsStart program (method_at program from) arguments globals → run limit program (method_at program from) arguments globals n ≡ reached (fails kind node) → ⊥

-- A run that has failed has failed at the method's own Requires, which the arguments do not meet, and so it has before any turn.
pub record FailsAtEntry (program : ProgramTree Variable) (from : ℕ) (arguments : List Value) (kind : Kind) (node : ℕ) : Type 0 where
  pub kind_is : kind ≡ kinds.Requires
  pub node_is : node ≡ (method_at program from).node
  pub before_any_turn : command_run program (method_at program from) arguments 0 ≡ reached (fails kind node)

-- Where each method that calls lead to is verified, and the arguments are values of the parameters' types, the command tells of no other failure.
abbrev pub VerifiedCommandsFailAtEntryAlone : Type 0
VerifiedCommandsFailAtEntryAlone =
    (program : ProgramTree Variable) (node_files : List ℕ) (files from : ℕ) → IsTypedProgram program node_files files → ReachedAreVerified program from →
    (arguments : List Value) (n : ℕ) (kind : Kind) (node : ℕ) → Fits program arguments (method_at program from).params →
    command_run program (method_at program from) arguments n ≡ reached (fails kind node) → FailsAtEntry program from arguments kind node
