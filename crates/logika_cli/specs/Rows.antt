-- What each status of `check` tells, one row for each.
use Rattle.std.specs.Prelude.{◌≡◌, ◌≢◌, ◌≤◌, ℕ, List, [], ◌⊎◌, Some, Ok, Err}
use Rattle.lk_io.specs.Run.{Rose}
use Rattle.lk_io.specs.Sink.{SinkRun, GivesPart, IsRefusal}
use Rattle.lk_io.specs.GiveAll.{GivesWhole}
use Rattle.project_reports.specs.Projects.{NamedText}
use Rattle.project_reports.specs.Reports.{IsReport}
use Rattle.project_check.specs.Reports.{VerifiedAreSafe}
use Rattle.text_reading.specs.Inputs.{Input, Inputs, IsTold, HaveNoFault, HaveFault}
use Rattle.text_reading.specs.Texts.{Refusal, no_file, too_large, TextsReadAs}
use Rattle.command_ends.specs.Writing.{WritesWhole}
use Rattle.command_ends.specs.Journal.{GetsLine, too_large_line, no_file_line, read_fault_line, write_fault_line, no_memory_line}
use Rattle.command_ends.specs.Refusals.{refusal_of, TellsTexts}
use Rattle.text_reading.specs.declared.limits.Limits.{Limits}

-- The told input, as far as it is told, has these texts, within the limits, and this is their output with its status. Where all methods
-- that a method of them reaches are verified, no run of that method fails: of any number of turns, from any state that meets its Requires.
pub record HasOutput (limits : Limits) (names : List (List ℕ)) (inputs : Inputs) (text : List ℕ) (code : ℕ) : Type 0 where
  pub input : Input
  pub told : IsTold inputs input
  pub texts : List NamedText
  pub read : TextsReadAs limits names input (Ok texts)
  pub output : IsReport 1 texts text code
  pub safe : VerifiedAreSafe texts

-- 0, 1, 2: the whole output was given and handed on, and nothing was given on the journal.
pub record Answered (limits : Limits) (names : List (List ℕ)) (inputs : Inputs) (out journal : SinkRun) (code : ℕ) : Type 0 where
  pub text : List ℕ
  pub output : HasOutput limits names inputs text code
  pub written : WritesWhole out text
  pub silent : GivesWhole journal []

-- 5: the source or the folder failed. Nothing was given on the output.
pub record FailedToRead (inputs : Inputs) (out journal : SinkRun) : Type 0 where
  pub fault : HaveFault inputs
  pub given : GivesWhole out []
  pub line : GetsLine journal (Some read_fault_line)

-- A front of the output was given.
pub record GivesFrontOfOutput (limits : Limits) (names : List (List ℕ)) (inputs : Inputs) (out : SinkRun) : Type 0 where
  pub text : List ℕ
  pub code : ℕ
  pub output : HasOutput limits names inputs text code
  pub given : GivesPart out text

-- 6: the output failed, and was given a front of what is due to it.
pub record FailedToWrite (limits : Limits) (names : List (List ℕ)) (inputs : Inputs) (out journal : SinkRun) : Type 0 where
  pub given : GivesFrontOfOutput limits names inputs out
  pub fault : Rose out.before.faults out.now.faults
  pub line : GetsLine journal (Some write_fault_line)

-- The output found no memory for what is due to it, and was given a front of that.
pub record OutputRefused (limits : Limits) (names : List (List ℕ)) (inputs : Inputs) (out : SinkRun) : Type 0 where
  pub given : GivesFrontOfOutput limits names inputs out
  pub refusal : IsRefusal out

-- 7: memory ran out. Nothing was given on the output, unless it was the output that found no memory.
pub record RanOutOfMemory (limits : Limits) (names : List (List ℕ)) (inputs : Inputs) (out journal : SinkRun) : Type 0 where
  pub given : GivesWhole out [] ⊎ OutputRefused limits names inputs out
  pub line : GetsLine journal (Some no_memory_line)

-- 8: of the told input, as far as it is told, the first text that is not read passes a limit. Nothing was given on the output.
pub record WasTooLarge (limits : Limits) (names : List (List ℕ)) (inputs : Inputs) (out journal : SinkRun) : Type 0 where
  pub input : Input
  pub told : IsTold inputs input
  pub name : List ℕ
  pub line_no : ℕ
  pub read : TextsReadAs limits names input (Err (too_large name line_no))
  pub given : GivesWhole out []
  pub line : GetsLine journal (Some (too_large_line name line_no))

-- 10: of the told input, as far as it is told, the first text that is not read has no file. Nothing was given on the output.
pub record FoundNoFile (limits : Limits) (names : List (List ℕ)) (inputs : Inputs) (out journal : SinkRun) : Type 0 where
  pub input : Input
  pub told : IsTold inputs input
  pub name : List ℕ
  pub read : TextsReadAs limits names input (Err (no_file name))
  pub given : GivesWhole out []
  pub line : GetsLine journal (Some (no_file_line name))

-- The rows of `check` over these files.
pub record Rows (limits : Limits) (names : List (List ℕ)) (inputs : Inputs) (out journal : SinkRun) (code : ℕ) : Type 0 where
  -- no other status comes
  pub only : (code ≤ 2) ⊎ ((5 ≤ code) × (code ≤ 8)) ⊎ (code ≡ 10)
  pub answered : code ≤ 2 → Answered limits names inputs out journal code
  pub read_fault : code ≡ 5 → FailedToRead inputs out journal
  pub write_fault : code ≡ 6 → FailedToWrite limits names inputs out journal
  pub no_memory : code ≡ 7 → RanOutOfMemory limits names inputs out journal
  pub too_large : code ≡ 8 → WasTooLarge limits names inputs out journal
  pub no_file : code ≡ 10 → FoundNoFile limits names inputs out journal
  -- a fault is never passed over
  pub read_faults : ¬ HaveNoFault inputs → code ≡ 5
  pub write_faults : out.now.faults ≢ out.before.faults → code ≡ 6
  -- where no count has risen the status is the one that is due, or memory ran out
  pub within : (input : Input) (texts : List NamedText) → TellsTexts names inputs input → TextsReadAs limits names input (Ok texts)
      → ¬ HaveFault inputs → ¬ Rose out.before.faults out.now.faults → (code ≤ 2) ⊎ (code ≡ 7)
  pub refused : (input : Input) (why : Refusal) → TellsTexts names inputs input → TextsReadAs limits names input (Err why)
      → ¬ HaveFault inputs → ((code ≡ (refusal_of why).code) × GetsLine journal (refusal_of why).line) ⊎ (code ≡ 7)
