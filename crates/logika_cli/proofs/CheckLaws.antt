-- The ends of the command `check`.
use Rattle.std.proofs.Common.{◌≤◌, ℕ, List, Ok, Err}
use Rattle.project_reports.specs.Projects.{NamedText}
use Rattle.project_reports.specs.Reports.{IsReport}
use Rattle.text_reading.specs.Inputs.{Input, Inputs}
use Rattle.text_reading.specs.Ends.{AreRead, AreReadInPart, TextsEndAs}
use Rattle.text_reading.specs.Texts.{Refusal, TextsReadAs}
use Rattle.text_reading.specs.declared.limits.Limits.{Limits}
use Rattle.text_reading.specs.declared.texts.TextsEnd.{TextsEnd}
use Rattle.command_ends.specs.Status.{AnswerIsDue}
use Rattle.command_ends.specs.Refusals.{refusal_of}
use Rattle.command_ends.specs.Stop.{stop_of_read, StopsUnwritten}
use Rattle.command_ends.specs.declared.stop.Stop.TheVariants.{NoMemory}
use Rattle.command_ends.proofs.EndLaws.{EndsBy-read, EndsBy-no_memory}
use Rattle.logika_cli.specs.Check.{IsDueOfCheck, check_command}

module _ (limits : Limits) (names : List (List ℕ)) (inputs : Inputs) where
  -- The texts were read.
  pub AnswerIsDue-read : {texts : List NamedText} {text : List ℕ} {code : ℕ} → AreRead limits names inputs (Ok texts) → IsReport 1 texts text code → code ≤ 2
      → AnswerIsDue (check_command limits names) inputs text code
  AnswerIsDue-read is output small = record {
    is_due = record { input = is.input; told = is.told; is_due = IsDueOfCheck.checked is.read output small };
    read = is.no_fault;
  }

  -- The texts were not read.
  pub StopsUnwritten-read : (end : TextsEnd) → TextsEndAs limits names inputs end → StopsUnwritten names (check_command limits names) inputs (stop_of_read end)
  StopsUnwritten-read end is = EndsBy-read (IsDueOfCheck limits names) inputs limits names refused end is
    where
      refused : (input : Input) (why : Refusal) → TextsReadAs limits names input (Err why) → IsDueOfCheck limits names input (refusal_of why)
      refused input why read = IsDueOfCheck.refused read

  -- Memory ran out behind the texts.
  pub StopsUnwritten-no_memory : AreReadInPart inputs → StopsUnwritten names (check_command limits names) inputs NoMemory
  StopsUnwritten-no_memory is = EndsBy-no_memory (IsDueOfCheck limits names) inputs is
