-- The ends of a command that reads some texts and gives one answer.
use Rattle.std.proofs.Common.{◌≡◌, ℕ, List, [], ◌++◌, false, Err, refl, inl, inr, append-nil}
use Rattle.lk_io.specs.Run.{run}
use Rattle.lk_io.specs.Sink.{SinkState, SinkRun}
use Rattle.lk_io.specs.declared.sinks.SinkEnd.{SinkEnd}
use Rattle.lk_io.specs.declared.sinks.SinkEnd.TheVariants.{Failed, NoMemory}
use Rattle.lk_io.proofs.SinkLaws.{Appends-none, IsQuiet-none}
use Rattle.text_reading.specs.Inputs.{Input, Inputs, IsTold, HaveNoFault}
use Rattle.text_reading.specs.Ends.{AreRead, AreReadInPart, TextsEndAs, misses}
use Rattle.text_reading.specs.Texts.{Refusal, no_file, too_large, TextsReadAs, name_at}
use Rattle.text_reading.specs.declared.limits.Limits.{Limits}
use Rattle.text_reading.specs.declared.texts.TextsEnd.{TextsEnd}
use Rattle.text_reading.specs.declared.texts.TextsEnd.TheVariants as unread
use Rattle.command_ends.specs.Writing.{WritesWhole, WritesPart}
use Rattle.command_ends.specs.Status.{Due, Command, single, AnswerIsDue, EndsBy, as_due, no_memory, answer, refusal}
use Rattle.command_ends.specs.Refusals.{refusal_of}
use Rattle.command_ends.specs.Stop.{end_of, is_no_file, stop_of_read, stop_of_write, StopsUnwritten, Answers}

-- Whether a file was missed is kept.
pub is_no_file-read : (end : TextsEnd) → is_no_file (stop_of_read end) ≡ misses (Err end)
is_no_file-read unread.ReadFault = refl
is_no_file-read (unread.Missing at) = refl
is_no_file-read (unread.TooLarge at line) = refl
is_no_file-read unread.NoMemory = refl

pub is_no_file-write : (end : SinkEnd) → is_no_file (stop_of_write end) ≡ false
is_no_file-write Failed = refl
is_no_file-write NoMemory = refl

module _ (due : Input → Due → Type 0) (inputs : Inputs) where
  -- Memory ran out while nothing was given.
  pub EndsBy-no_memory : AreReadInPart inputs → (out : SinkState) → EndsBy (single due) inputs (run out out) no_memory
  EndsBy-no_memory read out = record {
    read = read.no_fault;
    cause = inl (record { front = read.front; taken = read.taken; text = []; earlier = refl; given = Appends-none out; quiet = IsQuiet-none out });
  }

  -- A refusal is due, and nothing was given.
  pub EndsBy-refusal : {code : ℕ} {line : List ℕ} {input : Input} → IsTold inputs input → due input (refusal code line) → HaveNoFault inputs
      → (out : SinkState) → EndsBy (single due) inputs (run out out) (as_due (refusal code line))
  EndsBy-refusal {input = input} told is_due read out = record {
    is_due = record { input = input; told = told; is_due = is_due };
    read = read;
    given = Appends-none out;
    handed = λ answers. cc;
    quiet = IsQuiet-none out;
  }

  module _ (limits : Limits) (names : List (List ℕ)) (refused : (input : Input) (why : Refusal) → TextsReadAs limits names input (Err why)
      → due input (refusal_of why)) where
    refuses : (why : Refusal) → AreRead limits names inputs (Err why) → (out : SinkState)
        → EndsBy (single due) inputs (run out out) (as_due (refusal_of why))
    refuses (no_file name) is out = EndsBy-refusal is.told (refused is.input (no_file name) is.read) is.no_fault out
    refuses (too_large name line) is out = EndsBy-refusal is.told (refused is.input (too_large name line) is.read) is.no_fault out

    -- The texts were not read, and nothing was given.
    pub EndsBy-read : (end : TextsEnd) → TextsEndAs limits names inputs end → StopsUnwritten names (single due) inputs (stop_of_read end)
    EndsBy-read unread.ReadFault is out = record {
      front = is.front;
      taken = is.taken;
      text = [];
      earlier = refl;
      fault = is.fault;
      given = Appends-none out;
      quiet = IsQuiet-none out;
    }
    EndsBy-read (unread.Missing at) is out = refuses (no_file (name_at names at)) is out
    EndsBy-read (unread.TooLarge at line) is out = refuses (too_large (name_at names at) line) is out
    EndsBy-read unread.NoMemory is out = EndsBy-no_memory is out

module _ (command : Command) (inputs : Inputs) (text : List ℕ) (code : ℕ) (is : AnswerIsDue command inputs text code) where
  -- The output was not written whole.
  pub EndsBy-write : (names : List (List ℕ)) (out : SinkRun) (end : SinkEnd) → WritesPart out (text ++ []) end
      → EndsBy command inputs out (end_of names (stop_of_write end))
  EndsBy-write names out Failed wrote = record {
    due = answer text code;
    is_due = is.is_due;
    writes = inl refl;
    read = is.read;
    given = rw (append-nil text) at wrote.given;
    fault = wrote.cause;
  }
  EndsBy-write names out NoMemory wrote = record {
    read = is.read;
    cause = inr (record { due = answer text code; is_due = is.is_due; writes = inl refl; given = rw (append-nil text) at wrote.given; refusal = wrote.cause });
  }

  -- The output was written.
  pub Answers-whole : (out : SinkRun) → WritesWhole out (text ++ []) → Answers command inputs out code
  Answers-whole out wrote = record {
    text = text;
    ends = record {
      is_due = is.is_due;
      read = is.read;
      given = rw (append-nil text) at wrote.given.adds;
      handed = λ _. wrote.handed;
      quiet = wrote.given.quiet;
    };
  }
