-- What a sink of bytes tells, and what its calls do to that.
use Rattle.std.specs.Prelude.{◌≡◌, ℕ, ◌≤◌, List, ◌++◌, take, length, Option, IfSome, Result, MatchResult, IfOk, OnErr}
use Rattle.std.specs.Io.KnownBytes.{Keeps, Appends as gains}
use Rattle.lk_io.specs.Run.{Run, Rose}
use Rattle.lk_io.specs.declared.sinks.SinkEnd.{SinkEnd}
use Rattle.lk_io.specs.declared.sinks.SinkEnd.TheVariants.{Failed, NoMemory}

pub record SinkState : Type 0 where
  -- the bytes that it was given, where it tells them
  pub given : Option (List ℕ)
  -- how many of these it has handed on, where it tells that
  pub handed : Option ℕ
  -- how many of its calls have failed
  pub faults : ℕ
  -- how many of its calls found no memory
  pub refusals : ℕ

abbrev pub SinkRun : Type 0
SinkRun = Run SinkState

-- Told bytes have grown by these.
pub record Appends (run : SinkRun) (bytes : List ℕ) : Type 0 where
  pub given : gains run.before.given run.now.given bytes

-- Told bytes have grown by a front of these.
pub record GivesPart (run : SinkRun) (bytes : List ℕ) : Type 0 where
  pub part : List ℕ
  pub rest : List ℕ
  pub whole : bytes ≡ part ++ rest
  pub adds : Appends run part

-- What was handed on is what was handed on before.
abbrev pub KeepsHanded : SinkRun → Type 0
KeepsHanded run = run.now.handed ≡ run.before.handed

-- All that was given has been handed on, where the sink tells both.
abbrev pub HasHandedOn : SinkState → Type 0
HasHandedOn sink = IfSome sink.given (λ bytes. IfSome sink.handed (λ count. count ≡ length bytes))

-- No call failed, and none found no memory.
pub record IsQuiet (run : SinkRun) : Type 0 where
  pub faults : run.now.faults ≡ run.before.faults
  pub refusals : run.now.refusals ≡ run.before.refusals

-- One call failed, and none found no memory.
pub record IsFault (run : SinkRun) : Type 0 where
  pub faults : Rose run.before.faults run.now.faults
  pub refusals : run.now.refusals ≡ run.before.refusals

-- One call found no memory, and none failed.
pub record IsRefusal (run : SinkRun) : Type 0 where
  pub faults : run.now.faults ≡ run.before.faults
  pub refusals : Rose run.before.refusals run.now.refusals

-- A call that did not do its work is counted as what it is.
abbrev pub IsCounted : SinkRun → SinkEnd → Type 0
IsCounted run Failed = IsFault run
IsCounted run NoMemory = IsRefusal run

abbrev pub HasCause : {T : Type 0} → SinkRun → Result T SinkEnd → Type 0
HasCause run result = MatchResult result (λ _. IsQuiet run) (IsCounted run)

-- One `give`.
pub record Gives (run : SinkRun) (piece : List ℕ) (result : Result ℕ SinkEnd) : Type 0 where
  pub some : IfOk result (λ n. 1 ≤ n)
  pub fits : IfOk result (λ n. n ≤ length piece)
  -- the first n bytes of the piece were given
  pub adds : IfOk result (λ n. Appends run (take n piece))
  pub kept : OnErr result (Keeps run.before.given run.now.given)
  pub handed : KeepsHanded run
  pub cause : HasCause run result

-- One `flush`: it gives nothing, whatever it answers, and hands on all or nothing.
pub record Flushes {T : Type 0} (run : SinkRun) (result : Result T SinkEnd) : Type 0 where
  pub kept : Keeps run.before.given run.now.given
  pub handed : MatchResult result (λ _. HasHandedOn run.now) (λ _. KeepsHanded run)
  pub cause : HasCause run result
