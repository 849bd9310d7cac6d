-- The command `check` over the files that it names, or over the source where it names none.
use Rattle.std.specs.Prelude.{◌≤◌, ℕ, List, Ok, Err}
use Rattle.project_reports.specs.Projects.{NamedText}
use Rattle.project_reports.specs.Reports.{IsReport}
use Rattle.text_reading.specs.Inputs.{Input}
use Rattle.text_reading.specs.Texts.{Refusal, TextsReadAs}
use Rattle.command_ends.specs.Status.{Due, Command, single, answer}
use Rattle.command_ends.specs.Refusals.{refusal_of}
use Rattle.text_reading.specs.declared.limits.Limits.{Limits}

-- Where these files are named, the report on their texts is due as the first revision, with its status, or the refusal of the first that is not read.
pub data IsDueOfCheck (limits : Limits) (names : List (List ℕ)) (input : Input) : Due → Type 0 where
  checked : {texts : List NamedText} {text : List ℕ} {code : ℕ} → TextsReadAs limits names input (Ok texts) → IsReport 1 texts text code → code ≤ 2
      → IsDueOfCheck limits names input (answer text code)
  refused : {why : Refusal} → TextsReadAs limits names input (Err why) → IsDueOfCheck limits names input (refusal_of why)

abbrev pub check_command : Limits → List (List ℕ) → Command
check_command limits names = single (IsDueOfCheck limits names)
