-- What a command is due to do of its input, the ways in which it ends, and the status of each.
use Rattle.std.specs.Prelude.{◌≡◌, ◌≢◌, ℕ, List, [], ◌⊎◌, Option, Some, None}
use Rattle.lk_io.specs.Source.{Consumes}
use Rattle.lk_io.specs.Sink.{SinkRun, Appends, GivesPart, HasHandedOn, IsQuiet, IsFault, IsRefusal}
use Rattle.text_reading.specs.Inputs.{Input, Inputs, IsTold, HaveNoFault, HaveFault}
use Rattle.command_ends.specs.Journal.{GetsLine, read_fault_line, write_fault_line, no_memory_line}

-- What is due: a text on the output, a status, and for some statuses a last line on the journal.
pub record Due : Type 0 where
  pub text : List ℕ
  pub code : ℕ
  pub line : Option (List ℕ)

-- An answer: its text, and a status that has no line.
abbrev pub answer : List ℕ → ℕ → Due
answer text code = record { text = text; code = code; line = None }

-- A refusal: a status and its line, and nothing on the output.
abbrev pub refusal : ℕ → List ℕ → Due
refusal code line = record { text = []; code = code; line = Some line }

-- A command, as a relation between its input and what is due of it.
pub record Command : Type 1 where
  -- what is due of this whole input
  pub due : Input → Due → Type 0
  -- the text due of the commands that this front of the source holds whole
  pub earlier : List ℕ → List ℕ → Type 0

-- A command that reads all and gives one answer: nothing is due of a front of its input.
abbrev pub single : (Input → Due → Type 0) → Command
single due = record { due = due; earlier = λ front text. text ≡ [] }

-- A command ends as is due of its input, or before that by a fault of the source or the folder, by a fault of the output, or for
-- want of memory.
pub data End : Type 0 where
  as_due : Due → End
  read_fault : End
  write_fault : End
  no_memory : End

abbrev pub code_of : End → ℕ
code_of (as_due due) = due.code
code_of read_fault = 5
code_of write_fault = 6
code_of no_memory = 7

abbrev pub line_of : End → Option (List ℕ)
line_of (as_due due) = due.line
line_of read_fault = Some read_fault_line
line_of write_fault = Some write_fault_line
line_of no_memory = Some no_memory_line

-- The input is the told one, as far as it is told, and this is due of it.
pub record IsDueOf (command : Command) (inputs : Inputs) (due : Due) : Type 0 where
  pub input : Input
  pub told : IsTold inputs input
  pub is_due : command.due input due

-- All was read without a fault, and this answer is due of it.
pub record AnswerIsDue (command : Command) (inputs : Inputs) (text : List ℕ) (code : ℕ) : Type 0 where
  pub is_due : IsDueOf command inputs (answer text code)
  pub read : HaveNoFault inputs

-- The whole text was given, and nothing failed or found no memory. That of an answer was handed on.
pub record EndsAsDue (command : Command) (inputs : Inputs) (out : SinkRun) (due : Due) : Type 0 where
  pub is_due : IsDueOf command inputs due
  pub read : HaveNoFault inputs
  pub given : Appends out due.text
  pub handed : due.line ≡ None → HasHandedOn out.now
  pub quiet : IsQuiet out

-- The source or the folder failed. The output of the commands read before is whole.
pub record EndsByReadFault (command : Command) (inputs : Inputs) (out : SinkRun) : Type 0 where
  pub front : List ℕ
  pub taken : Consumes inputs.source front
  pub text : List ℕ
  pub earlier : command.earlier front text
  pub fault : HaveFault inputs
  pub given : Appends out text
  pub quiet : IsQuiet out

-- The output failed while the text of an answer was due to it, and a front of that text was given.
pub record EndsByWriteFault (command : Command) (inputs : Inputs) (out : SinkRun) : Type 0 where
  pub due : Due
  pub is_due : IsDueOf command inputs due
  pub writes : (due.line ≡ None) ⊎ (due.text ≢ [])
  pub read : HaveNoFault inputs
  pub given : GivesPart out due.text
  pub fault : IsFault out

-- The command found no memory, and the output was not asked for any. The output of the commands read before is whole, and
-- nothing stands behind it.
pub record FindsNoMemory (command : Command) (inputs : Inputs) (out : SinkRun) : Type 0 where
  pub front : List ℕ
  pub taken : Consumes inputs.source front
  pub text : List ℕ
  pub earlier : command.earlier front text
  pub given : Appends out text
  pub quiet : IsQuiet out

-- The output found no memory while the text of an answer was due to it, and a front of that text was given.
pub record RefusesText (command : Command) (inputs : Inputs) (out : SinkRun) : Type 0 where
  pub due : Due
  pub is_due : IsDueOf command inputs due
  pub writes : (due.line ≡ None) ⊎ (due.text ≢ [])
  pub given : GivesPart out due.text
  pub refusal : IsRefusal out

-- Memory ran out. Neither the source nor the folder nor the output failed.
pub record EndsByNoMemory (command : Command) (inputs : Inputs) (out : SinkRun) : Type 0 where
  pub read : HaveNoFault inputs
  pub cause : FindsNoMemory command inputs out ⊎ RefusesText command inputs out

abbrev pub EndsBy : Command → Inputs → SinkRun → End → Type 0
EndsBy command inputs out (as_due due) = EndsAsDue command inputs out due
EndsBy command inputs out read_fault = EndsByReadFault command inputs out
EndsBy command inputs out write_fault = EndsByWriteFault command inputs out
EndsBy command inputs out no_memory = EndsByNoMemory command inputs out

-- The status of a command is that of its end, whose line is the last thing on the journal.
pub record HasStatus (command : Command) (inputs : Inputs) (out journal : SinkRun) (code : ℕ) : Type 0 where
  pub end : End
  pub ends : EndsBy command inputs out end
  pub code_is : code ≡ code_of end
  pub line : GetsLine journal (line_of end)
