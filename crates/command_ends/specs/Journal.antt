-- The last lines of the journal, one for each status that has a line, and what writing one comes to.
use Rattle.std.specs.Prelude.{ℕ, List, [], ◌++◌, ◌⊎◌, Option, Some, None, codes, decimal}
use Rattle.lk_io.specs.Sink.{SinkRun, GivesPart, IsFault, IsRefusal}
use Rattle.lk_io.specs.GiveAll.{GivesWhole}
use Rattle.command_ends.specs.Writing.{WritesWhole}

abbrev pub words_line : List ℕ
words_line = codes "logika: words refused\n"

abbrev pub read_fault_line : List ℕ
read_fault_line = codes "logika: read fault\n"

abbrev pub write_fault_line : List ℕ
write_fault_line = codes "logika: write fault\n"

abbrev pub no_memory_line : List ℕ
no_memory_line = codes "logika: no memory\n"

-- A text is too large: its first byte past a limit stands in this line of it.
abbrev pub too_large_line : List ℕ → ℕ → List ℕ
too_large_line name line = codes "logika: too large " ++ name ++ codes " line " ++ decimal line ++ codes "\n"

-- There is no file of that name.
abbrev pub no_file_line : List ℕ → List ℕ
no_file_line name = codes "logika: no file " ++ name ++ codes "\n"

-- No method has the name, or the words are no arguments of it.
abbrev pub arguments_line : List ℕ
arguments_line = codes "logika: arguments do not fit\n"

-- A front of the line was given, and the journal failed or found no memory.
pub record CutsLine (journal : SinkRun) (line : List ℕ) : Type 0 where
  pub given : GivesPart journal line
  pub cause : IsFault journal ⊎ IsRefusal journal

-- The journal was given this line and nothing else, whole and handed on unless the journal itself cut it. With no line it
-- was given nothing.
abbrev pub GetsLine : SinkRun → Option (List ℕ) → Type 0
GetsLine journal None = GivesWhole journal []
GetsLine journal (Some line) = WritesWhole journal line ⊎ CutsLine journal line
