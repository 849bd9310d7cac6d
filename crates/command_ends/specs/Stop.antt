-- The ends of a command that is stopped, as the code names them.
use Rattle.std.specs.Prelude.{ℕ, List, Bool, true, false, Result, Ok, Err, MatchResult}
use Rattle.lk_io.specs.Run.{run}
use Rattle.lk_io.specs.Sink.{SinkState, SinkRun}
use Rattle.lk_io.specs.declared.sinks.SinkEnd.{SinkEnd}
use Rattle.text_reading.specs.Inputs.{Inputs}
use Rattle.text_reading.specs.Texts.{no_file, too_large, name_at}
use Rattle.text_reading.specs.declared.texts.TextsEnd.{TextsEnd}
use Rattle.command_ends.specs.Status.{Command, End, as_due, read_fault, write_fault, no_memory, answer, EndsBy}
use Rattle.command_ends.specs.Refusals.{words_refusal, refusal_of, arguments_refusal}
use Rattle.command_ends.specs.declared.stop.Stop.{Stop}
use Rattle.command_ends.specs.declared.stop.Stop.TheVariants.{WordsRefused, ReadFault, WriteFault, NoMemory, TooLarge, NoFile, DoNotFit}

-- the end of a command that names these files
abbrev pub end_of : List (List ℕ) → Stop → End
end_of names WordsRefused = as_due words_refusal
end_of names ReadFault = read_fault
end_of names WriteFault = write_fault
end_of names NoMemory = no_memory
end_of names (TooLarge at line) = as_due (refusal_of (too_large (name_at names at) line))
end_of names (NoFile at) = as_due (refusal_of (no_file (name_at names at)))
end_of names DoNotFit = as_due arguments_refusal

-- the stop of texts that are not read
abbrev pub stop_of_read : TextsEnd → Stop
stop_of_read TextsEnd.ReadFault = ReadFault
stop_of_read (TextsEnd.Missing at) = NoFile at
stop_of_read (TextsEnd.TooLarge at line) = TooLarge at line
stop_of_read TextsEnd.NoMemory = NoMemory

-- the stop of an output that is not written whole
abbrev pub stop_of_write : SinkEnd → Stop
stop_of_write SinkEnd.Failed = WriteFault
stop_of_write SinkEnd.NoMemory = NoMemory

-- whether it was a file that there is not
abbrev pub is_no_file : Stop → Bool
is_no_file WordsRefused = false
is_no_file ReadFault = false
is_no_file WriteFault = false
is_no_file NoMemory = false
is_no_file (TooLarge at line) = false
is_no_file (NoFile at) = true
is_no_file DoNotFit = false

abbrev pub stops_without_file : {T : Type 0} → Result T Stop → Bool
stops_without_file (Ok value) = false
stops_without_file (Err stop) = is_no_file stop

-- The command is stopped before anything is given on the output.
abbrev pub StopsUnwritten : List (List ℕ) → Command → Inputs → Stop → Type 0
StopsUnwritten names command inputs stop = (out : SinkState) → EndsBy command inputs (run out out) (end_of names stop)

-- The command answered, with this status.
pub record Answers (command : Command) (inputs : Inputs) (out : SinkRun) (code : ℕ) : Type 0 where
  pub text : List ℕ
  pub ends : EndsBy command inputs out (as_due (answer text code))

-- The command answered, or was stopped.
abbrev pub AnswersOrStops : List (List ℕ) → Command → Inputs → SinkRun → Result ℕ Stop → Type 0
AnswersOrStops names command inputs out result =
    MatchResult result (Answers command inputs out) (λ stop. EndsBy command inputs out (end_of names stop))
