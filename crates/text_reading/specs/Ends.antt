-- What reading the texts of a command comes to.
use Rattle.std.specs.Prelude.{◌≡◌, ℕ, List, Bool, true, false, map, Result, Ok, Err}
use Rattle.lk_io.specs.Source.{Consumes}
use Rattle.project_reports.specs.Projects as project
use Rattle.project_reading.specs.Texts.{text_seen}
use Rattle.project_reading.specs.declared.texts.NamedText.{NamedText}
use Rattle.text_reading.specs.Inputs.{Input, Inputs, IsTold, HaveNoFault, HaveFault}
use Rattle.text_reading.specs.Texts.{Refusal, no_file, too_large, TextsReadAs, name_at}
use Rattle.text_reading.specs.declared.limits.Limits.{Limits}
use Rattle.text_reading.specs.declared.folder_texts.FileEnd.{FileEnd}
use Rattle.text_reading.specs.declared.folder_texts.FileEnd.TheVariants as file
use Rattle.text_reading.specs.declared.reading.ReadEnd.{ReadEnd}
use Rattle.text_reading.specs.declared.reading.ReadEnd.TheVariants as source
use Rattle.text_reading.specs.declared.texts.TextsEnd.{TextsEnd}
use Rattle.text_reading.specs.declared.texts.TextsEnd.TheVariants.{ReadFault, Missing, TooLarge, NoMemory}

-- The texts were looked at as far as it takes, without a fault: reading the told input comes to this.
pub record AreRead (limits : Limits) (names : List (List ℕ)) (inputs : Inputs) (outcome : Result (List project.NamedText) Refusal) : Type 0 where
  pub input : Input
  pub told : IsTold inputs input
  pub read : TextsReadAs limits names input outcome
  pub no_fault : HaveNoFault inputs

-- A front of the source was read, and then a call of it or a read of the folder failed.
pub record AreReadToFault (inputs : Inputs) : Type 0 where
  pub front : List ℕ
  pub taken : Consumes inputs.source front
  pub fault : HaveFault inputs

-- A front of the source was read, without a fault.
pub record AreReadInPart (inputs : Inputs) : Type 0 where
  pub front : List ℕ
  pub taken : Consumes inputs.source front
  pub no_fault : HaveNoFault inputs

abbrev pub TextsEndAs : Limits → List (List ℕ) → Inputs → TextsEnd → Type 0
TextsEndAs limits names inputs ReadFault = AreReadToFault inputs
TextsEndAs limits names inputs (Missing at) = AreRead limits names inputs (Err (no_file (name_at names at)))
TextsEndAs limits names inputs (TooLarge at line) = AreRead limits names inputs (Err (too_large (name_at names at) line))
TextsEndAs limits names inputs NoMemory = AreReadInPart inputs

abbrev pub TextsAreRead : Limits → List (List ℕ) → Inputs → Result (List NamedText) TextsEnd → Type 0
TextsAreRead limits names inputs (Ok texts) = AreRead limits names inputs (Ok (map text_seen texts)) × AreReadInPart inputs
TextsAreRead limits names inputs (Err end) = TextsEndAs limits names inputs end

-- whether a file was missed
abbrev pub misses : Result (List NamedText) TextsEnd → Bool
misses (Err (Missing at)) = true
misses (Err (TooLarge at line)) = false
misses (Err ReadFault) = false
misses (Err NoMemory) = false
misses (Ok texts) = false

-- the end of the files, at the file of that place
abbrev pub placed : FileEnd → ℕ → TextsEnd
placed file.Failed at = ReadFault
placed file.Missing at = Missing at
placed (file.TooLarge line) at = TooLarge at line
placed file.NoMemory at = NoMemory

-- the end of the source, whose text is the only one
abbrev pub source_end : ReadEnd → TextsEnd
source_end source.ReadFault = ReadFault
source_end (source.TooLarge line) = TooLarge 0 line
source_end source.NoMemory = NoMemory
