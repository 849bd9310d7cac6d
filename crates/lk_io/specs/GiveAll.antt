-- What `give_all` does to what a sink tells.
use Rattle.std.specs.Prelude.{ℕ, ◌<◌, List, take, length, Result, MatchResult}
use Rattle.lk_io.specs.Sink.{SinkRun, Appends, IsQuiet, IsCounted}
use Rattle.lk_io.specs.declared.giving.GiveEnd.{GiveEnd}
use Rattle.lk_io.specs.declared.giving.GiveEnd.TheVariants.{Failed, NoMemory}
use Rattle.lk_io.specs.declared.sinks.SinkEnd.{SinkEnd}
use Rattle.lk_io.specs.declared.sinks.SinkEnd.TheVariants.{Failed as failed, NoMemory as no_memory}

-- How many bytes were given before the end.
abbrev pub given_before : GiveEnd → ℕ
given_before (Failed out) = out
given_before (NoMemory out) = out

-- The end alone.
abbrev pub end_alone : GiveEnd → SinkEnd
end_alone (Failed _) = failed
end_alone (NoMemory _) = no_memory

-- The whole piece was given.
pub record GivesWhole (run : SinkRun) (piece : List ℕ) : Type 0 where
  pub adds : Appends run piece
  pub quiet : IsQuiet run

-- A front of the piece was given, and not all.
pub record GivesFront (run : SinkRun) (piece : List ℕ) (end : GiveEnd) : Type 0 where
  pub fewer : given_before end < length piece
  pub adds : Appends run (take (given_before end) piece)
  pub cause : IsCounted run (end_alone end)

abbrev pub GivesAll : {T : Type 0} → SinkRun → List ℕ → Result T GiveEnd → Type 0
GivesAll run piece result = MatchResult result (λ _. GivesWhole run piece) (GivesFront run piece)
