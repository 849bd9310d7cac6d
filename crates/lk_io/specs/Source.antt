-- What a source of bytes tells, and what its calls do to that.
use Rattle.std.specs.Prelude.{◌≡◌, ℕ, ◌≤◌, ◌↔◌, List, [], take, length, Option, IfSome, Result, MatchResult, IfOk, OnErr}
use Rattle.std.specs.Io.KnownBytes.{Keeps, Consumes as loses_front}
use Rattle.lk_io.specs.Run.{Run, Rose}

pub record SourceState : Type 0 where
  -- the bytes that it will still give, where it tells them
  pub left : Option (List ℕ)
  -- how many of its calls have failed
  pub faults : ℕ

abbrev pub SourceRun : Type 0
SourceRun = Run SourceState

-- What is told, where anything is told, is this.
abbrev pub Tells : Option (List ℕ) → List ℕ → Type 0
Tells told bytes = IfSome told (λ xs. xs ≡ bytes)

-- These bytes were taken: told ones begin with them, and have lost them.
pub record Consumes (run : SourceRun) (bytes : List ℕ) : Type 0 where
  pub left : loses_front run.before.left run.now.left bytes

-- A fault is counted, and nothing else is.
abbrev pub HasCause : {T E : Type 0} → SourceRun → Result T E → Type 0
HasCause run result = MatchResult result (λ _. run.now.faults ≡ run.before.faults) (λ _. Rose run.before.faults run.now.faults)

-- One `take`, where the buffer then holds `buffer`.
pub record Takes {E : Type 0} (run : SourceRun) (buffer : List ℕ) (result : Result ℕ E) : Type 0 where
  pub fits : IfOk result (λ n. n ≤ length buffer)
  -- the buffer begins with the bytes that were taken
  pub moves : IfOk result (λ n. Consumes run (take n buffer))
  -- no bytes are the end: where the bytes are told, exactly where none is left
  pub end : IfOk result (λ n. IfSome run.before.left (λ told. (n ≡ 0) ↔ (told ≡ [])))
  pub kept : OnErr result (Keeps run.before.left run.now.left)
  pub cause : HasCause run result
