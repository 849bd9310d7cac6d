-- The command `run` over the source.
use Rattle.std.specs.Prelude.{◌≢◌, ℕ, List, [], ◌∷◌}
use Rattle.project_reports.specs.Projects.{NamedText}
use Rattle.text_reading.specs.Limits.{IsWithin, PassesIn}
use Rattle.text_reading.specs.Inputs.{Input, Inputs, IsTold, HaveNoFault}
use Rattle.text_reading.specs.Texts.{too_large, source_name}
use Rattle.text_reading.specs.declared.limits.Limits.{Limits}
use Rattle.command_ends.specs.Status.{Due, Command, single, answer}
use Rattle.command_ends.specs.Refusals.{refusal_of, arguments_refusal}
use Rattle.run_command.specs.Runs.{IsRunReport}

-- the bytes of the source as the one text of a project, whose name is `-`
abbrev pub source_texts : List ℕ → List NamedText
source_texts bytes = record { name = source_name; bytes = bytes } ∷ []

-- Of a source within the limits the line of the run is due with its status, or those of the faults of its text, unless there is no such method or
-- the words are no arguments of it: then that refusal is due. Of another source it is the refusal of its first byte past a limit.
pub data IsDueOfRun (limits : Limits) (method : List ℕ) (turns : ℕ) (arguments : List (List ℕ)) (input : Input) : Due → Type 0 where
  ran : {text : List ℕ} {code : ℕ} → IsWithin limits input.source → IsRunReport (source_texts input.source) method turns arguments text code → code ≢ 11
      → IsDueOfRun limits method turns arguments input (answer text code)
  does_not_fit : {text : List ℕ} → IsWithin limits input.source → IsRunReport (source_texts input.source) method turns arguments text 11
      → IsDueOfRun limits method turns arguments input arguments_refusal
  passes : {line : ℕ} → PassesIn limits input.source line → IsDueOfRun limits method turns arguments input (refusal_of (too_large source_name line))

abbrev pub run_command : Limits → List ℕ → ℕ → List (List ℕ) → Command
run_command limits method turns arguments = single (IsDueOfRun limits method turns arguments)

-- The source was read whole and without a fault, and this is what the run over it comes to.
pub record IsReportDue (limits : Limits) (method : List ℕ) (turns : ℕ) (arguments : List (List ℕ)) (inputs : Inputs) (text : List ℕ) (code : ℕ)
    : Type 0 where
  pub input : Input
  pub told : IsTold inputs input
  pub within : IsWithin limits input.source
  pub report : IsRunReport (source_texts input.source) method turns arguments text code
  pub no_fault : HaveNoFault inputs
