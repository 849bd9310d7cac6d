-- Texts of the code, as the definitions see them, and what reading them comes to.
use Rattle.std.specs.Prelude.{◌≡◌, ◌≢◌, ℕ, ◌+◌, if◌then◌else◌, List, [], ◌∷◌, ◌++◌, map}
use Rattle.std.specs.Borrow.{Bor}
use Rattle.std.specs.String.{string_bytes}
use Rattle.slang_tree.specs.declared.place.FileFault.{FileFault}
use Rattle.slang_tree.specs.declared.declaration.NamedFile.{NamedFile}
use Rattle.type_rules.specs.Faults.{precedes}
use Rattle.project_files.specs.Files.{file_seen}
use Rattle.project_reports.specs.Projects as project
use Rattle.project_reports.specs.Projects.{AreRead, AreUnread}
use Rattle.project_reading.specs.declared.texts.NamedText.{NamedText}
use Rattle.project_reading.specs.declared.read.Reading.{Reading}
use Rattle.project_reading.specs.declared.read.Reading.TheVariants as reading

abbrev pub text_seen : NamedText → project.NamedText
text_seen text = record { name = string_bytes text.name; bytes = text.bytes.items }

abbrev pub text_of : Bor NamedText → project.NamedText
text_of text = text_seen text.now

-- the place of an item behind those whose names do not come after its own
abbrev pub place_behind : {X : Type 0} → (X → List ℕ) → X → List X → ℕ
place_behind name item [] = 0
place_behind name item (next ∷ items) = if precedes (name item) (name next) then 0 else place_behind name item items + 1

-- These files and faults are what reading these texts has come to so far.
pub record HasRead (texts : List project.NamedText) (files : List NamedFile) (faults : List FileFault) : Type 0 where
  pub unread : AreUnread texts faults
  pub read : faults ≡ [] → AreRead texts (map file_seen files)

-- All texts are read, or there are those that are none, with their first faults.
abbrev pub IsReading : List project.NamedText → Reading → Type 0
IsReading texts (reading.Files files) = AreRead texts (map file_seen files)
IsReading texts (reading.Faults faults) = AreUnread texts faults × (faults ≢ [])
