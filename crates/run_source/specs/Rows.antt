-- What each status of `run` tells, one row for each.
use Rattle.std.specs.Prelude.{◌≡◌, ◌≢◌, ◌≤◌, ℕ, List, [], ◌⊎◌, Some}
use Rattle.lk_io.specs.Run.{Rose}
use Rattle.lk_io.specs.Sink.{SinkRun, GivesPart, IsRefusal}
use Rattle.lk_io.specs.GiveAll.{GivesWhole}
use Rattle.text_reading.specs.Limits.{IsWithin, PassesIn}
use Rattle.text_reading.specs.Inputs.{Input, Inputs, IsTold, HaveNoFault, HaveFault}
use Rattle.text_reading.specs.Texts.{source_name}
use Rattle.text_reading.specs.declared.limits.Limits.{Limits}
use Rattle.command_ends.specs.Writing.{WritesWhole}
use Rattle.command_ends.specs.Journal.{GetsLine, too_large_line, arguments_line, read_fault_line, write_fault_line, no_memory_line}
use Rattle.run_source.specs.Run.{source_texts}
use Rattle.run_source.specs.Outcomes.{HasOutcome, DoesNotFit}

-- The source, told where it tells its bytes, is within the limits.
pub record IsRead (limits : Limits) (inputs : Inputs) (bytes : List ℕ) : Type 0 where
  pub input : Input
  pub told : IsTold inputs input
  pub bytes_are : input.source ≡ bytes
  pub within : IsWithin limits bytes

module _ (limits : Limits) (method : List ℕ) (turns : ℕ) (arguments : List (List ℕ)) (inputs : Inputs) where
  -- this is the output of the run, with its status
  pub record HasOutput (text : List ℕ) (code : ℕ) : Type 0 where
    pub bytes : List ℕ
    pub read : IsRead limits inputs bytes
    pub outcome : HasOutcome (source_texts bytes) method turns arguments text code

  -- 0, 1, 2, 9: the whole output was given and handed on, and nothing was given on the journal.
  pub record Answered (out journal : SinkRun) (code : ℕ) : Type 0 where
    pub text : List ℕ
    pub output : HasOutput text code
    pub written : WritesWhole out text
    pub silent : GivesWhole journal []

  -- A front of the output was given.
  pub record GivesFrontOfOutput (out : SinkRun) : Type 0 where
    pub text : List ℕ
    pub code : ℕ
    pub output : HasOutput text code
    pub given : GivesPart out text

  -- 6: the output failed, and was given a front of what is due to it.
  pub record FailedToWrite (out journal : SinkRun) : Type 0 where
    pub given : GivesFrontOfOutput out
    pub fault : Rose out.before.faults out.now.faults
    pub line : GetsLine journal (Some write_fault_line)

  -- The output found no memory for what is due to it, and was given a front of that.
  pub record OutputRefused (out : SinkRun) : Type 0 where
    pub given : GivesFrontOfOutput out
    pub refusal : IsRefusal out

  -- 7: memory ran out. Nothing was given on the output, unless it was the output that found no memory.
  pub record RanOutOfMemory (out journal : SinkRun) : Type 0 where
    pub given : GivesWhole out [] ⊎ OutputRefused out
    pub line : GetsLine journal (Some no_memory_line)

  -- 11: there is no such method in the text, or the words are no arguments of it. Nothing was given on the output.
  pub record DidNotFit (out journal : SinkRun) : Type 0 where
    pub bytes : List ℕ
    pub read : IsRead limits inputs bytes
    pub does_not_fit : DoesNotFit (source_texts bytes) method arguments
    pub given : GivesWhole out []
    pub line : GetsLine journal (Some arguments_line)

-- 5: the source failed. Nothing was given on the output.
pub record FailedToRead (inputs : Inputs) (out journal : SinkRun) : Type 0 where
  pub fault : HaveFault inputs
  pub given : GivesWhole out []
  pub line : GetsLine journal (Some read_fault_line)

-- 8: the source, told where it tells its bytes, passes a limit. Nothing was given on the output.
pub record WasTooLarge (limits : Limits) (inputs : Inputs) (out journal : SinkRun) : Type 0 where
  pub input : Input
  pub told : IsTold inputs input
  pub line_no : ℕ
  pub passes : PassesIn limits input.source line_no
  pub given : GivesWhole out []
  pub line : GetsLine journal (Some (too_large_line source_name line_no))

-- The rows of `run`.
pub record Rows (limits : Limits) (method : List ℕ) (turns : ℕ) (arguments : List (List ℕ)) (inputs : Inputs) (out journal : SinkRun) (code : ℕ)
    : Type 0 where
  -- no other status comes
  pub only : (code ≤ 2) ⊎ ((5 ≤ code) × (code ≤ 9)) ⊎ (code ≡ 11)
  pub answered : (code ≤ 2) ⊎ (code ≡ 9) → Answered limits method turns arguments inputs out journal code
  pub read_fault : code ≡ 5 → FailedToRead inputs out journal
  pub write_fault : code ≡ 6 → FailedToWrite limits method turns arguments inputs out journal
  pub no_memory : code ≡ 7 → RanOutOfMemory limits method turns arguments inputs out journal
  pub too_large : code ≡ 8 → WasTooLarge limits inputs out journal
  pub did_not_fit : code ≡ 11 → DidNotFit limits method turns arguments inputs out journal
  -- a fault is never passed over
  pub read_faults : ¬ HaveNoFault inputs → code ≡ 5
  pub write_faults : out.now.faults ≢ out.before.faults → code ≡ 6
  -- where no count has risen the status is one that tells of the run, or memory ran out
  pub within : (bytes : List ℕ) → inputs.source.before.left ≡ Some bytes → IsWithin limits bytes → ¬ HaveFault inputs
      → ¬ Rose out.before.faults out.now.faults → (code ≤ 2) ⊎ (code ≡ 9) ⊎ (code ≡ 11) ⊎ (code ≡ 7)
  pub past : (bytes : List ℕ) (line : ℕ) → inputs.source.before.left ≡ Some bytes → PassesIn limits bytes line → ¬ HaveFault inputs
      → ((code ≡ 8) × GetsLine journal (Some (too_large_line source_name line))) ⊎ (code ≡ 7)
