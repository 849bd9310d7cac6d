-- What reading a source to its end, within the limits, comes to.
use Rattle.std.specs.Prelude.{◌≡◌, ℕ, List}
use Rattle.lk_io.specs.Run.{Rose}
use Rattle.lk_io.specs.Source.{SourceRun, Tells, Consumes}
use Rattle.text_reading.specs.Limits.{IsWithin, PassesIn}
use Rattle.text_reading.specs.declared.limits.Limits.{Limits}
use Rattle.text_reading.specs.declared.reading.ReadEnd.{ReadEnd}
use Rattle.text_reading.specs.declared.reading.ReadEnd.TheVariants.{ReadFault, TooLarge, NoMemory}

-- No call of the source failed.
abbrev pub HasNoFault : SourceRun → Type 0
HasNoFault source = source.now.faults ≡ source.before.faults

-- This is the whole text, and it is within the limits.
pub record ReadsWhole (limits : Limits) (source : SourceRun) (text : List ℕ) : Type 0 where
  pub told : Tells source.before.left text
  pub taken : Consumes source text
  pub within : IsWithin limits text
  pub no_fault : HasNoFault source

-- The whole text has a byte past a limit, in this line.
pub record ReadsPast (limits : Limits) (source : SourceRun) (line : ℕ) : Type 0 where
  pub text : List ℕ
  pub told : Tells source.before.left text
  pub passes : PassesIn limits text line
  pub no_fault : HasNoFault source

-- A front of the text was read, and then a call failed.
pub record ReadsToFault (source : SourceRun) : Type 0 where
  pub front : List ℕ
  pub taken : Consumes source front
  pub fault : Rose source.before.faults source.now.faults

-- A front of the text was read, and then memory ran out.
pub record ReadsFront (source : SourceRun) : Type 0 where
  pub front : List ℕ
  pub taken : Consumes source front
  pub no_fault : HasNoFault source

abbrev pub ReadEnds : Limits → SourceRun → ReadEnd → Type 0
ReadEnds limits source ReadFault = ReadsToFault source
ReadEnds limits source (TooLarge line) = ReadsPast limits source line
ReadEnds limits source NoMemory = ReadsFront source
