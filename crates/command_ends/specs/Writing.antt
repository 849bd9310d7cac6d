-- What writing a text and handing it on comes to.
use Rattle.std.specs.Prelude.{ℕ, List, Result, MatchResult}
use Rattle.lk_io.specs.Sink.{SinkRun, GivesPart, HasHandedOn, IsCounted}
use Rattle.lk_io.specs.GiveAll.{GivesWhole}
use Rattle.lk_io.specs.declared.sinks.SinkEnd.{SinkEnd}

-- The whole text was given and handed on.
pub record WritesWhole (sink : SinkRun) (text : List ℕ) : Type 0 where
  pub given : GivesWhole sink text
  pub handed : HasHandedOn sink.now

-- A front of the text was given, and then a call failed or found no memory.
pub record WritesPart (sink : SinkRun) (text : List ℕ) (end : SinkEnd) : Type 0 where
  pub given : GivesPart sink text
  pub cause : IsCounted sink end

abbrev pub Writes : {T : Type 0} → SinkRun → List ℕ → Result T SinkEnd → Type 0
Writes sink text result = MatchResult result (λ _. WritesWhole sink text) (WritesPart sink text)
