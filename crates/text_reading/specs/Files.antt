-- What the reads of a folder come to, one file after the other.
use Rattle.std.specs.Prelude.{◌≡◌, ℕ, ◌+◌, List, [], ◌∷◌, ◌++◌, Bool, true, false, map, length, ⊤, Option, Some, None, IfSome, Result, Ok, Err, string_bytes}
use Rattle.lk_io.specs.Run.{Rose}
use Rattle.lk_io.specs.Folder.{Files, FolderRun, file_of}
use Rattle.project_reports.specs.Projects as project
use Rattle.project_reading.specs.Texts.{text_seen}
use Rattle.project_reading.specs.declared.texts.NamedText.{NamedText}
use Rattle.text_reading.specs.Limits.{IsWithin, PassesIn}
use Rattle.text_reading.specs.Inputs.{FailsNoRead}
use Rattle.text_reading.specs.declared.limits.Limits.{Limits}
use Rattle.text_reading.specs.declared.folder_texts.FileEnd.{FileEnd}
use Rattle.text_reading.specs.declared.folder_texts.FileEnd.TheVariants.{Failed, Missing, TooLarge, NoMemory}

-- These are the bytes of the file of that name, where files are told.
abbrev pub HasFile : Option Files → List ℕ → List ℕ → Type 0
HasFile told name bytes = IfSome told (λ files. file_of files name ≡ Some bytes)

-- There is no file of that name, where files are told.
abbrev pub LacksFile : Option Files → List ℕ → Type 0
LacksFile told name = IfSome told (λ files. file_of files name ≡ None)

-- The files stay, no read failed, and the last one missed its file or did not.
pub record ReadsOn (folder : FolderRun) (misses : Bool) : Type 0 where
  pub files : folder.now.files ≡ folder.before.files
  pub faults : FailsNoRead folder
  pub missed : folder.now.missed ≡ misses

-- The read failed.
pub record FailsRead (folder : FolderRun) : Type 0 where
  pub files : folder.now.files ≡ folder.before.files
  pub fault : Rose folder.before.faults folder.now.faults
  pub missed : folder.now.missed ≡ false

-- A text of that name was read, within the limits.
pub record ReadsText (limits : Limits) (folder : FolderRun) (name : List ℕ) (text : project.NamedText) : Type 0 where
  pub named : text.name ≡ name
  pub found : HasFile folder.before.files name text.bytes
  pub within : IsWithin limits text.bytes
  pub reads : ReadsOn folder false

-- The file of that name has a byte past a limit, in that line.
pub record ReadsPastLimit (limits : Limits) (folder : FolderRun) (name : List ℕ) (line : ℕ) : Type 0 where
  pub bytes : List ℕ
  pub found : HasFile folder.before.files name bytes
  pub passes : PassesIn limits bytes line
  pub reads : ReadsOn folder false

-- No file of that name was found.
pub record MissesFile (folder : FolderRun) (name : List ℕ) : Type 0 where
  pub lacks : LacksFile folder.before.files name
  pub reads : ReadsOn folder true

-- What reading one file comes to.
abbrev pub ReadsFile : Limits → FolderRun → List ℕ → Result NamedText FileEnd → Type 0
ReadsFile limits folder name (Ok text) = ReadsText limits folder name (text_seen text)
ReadsFile limits folder name (Err Failed) = FailsRead folder
ReadsFile limits folder name (Err Missing) = MissesFile folder name
ReadsFile limits folder name (Err (TooLarge line)) = ReadsPastLimit limits folder name line
ReadsFile limits folder name (Err NoMemory) = ReadsOn folder false

-- These are texts of these names, within the limits, as far as files are told.
pub data AreTexts (limits : Limits) (told : Option Files) : List (List ℕ) → List project.NamedText → Type 0 where
  none : AreTexts limits told [] []
  more : {name bytes : List ℕ} {names : List (List ℕ)} {texts : List project.NamedText} → HasFile told name bytes → IsWithin limits bytes
      → AreTexts limits told names texts → AreTexts limits told (name ∷ names) (record { name = name; bytes = bytes } ∷ texts)

-- The texts of a front of the names were read without a fault, and those of the names that are left were not.
pub record HasTexts (limits : Limits) (folder : FolderRun) (names : List (List ℕ)) (texts : List project.NamedText) (left : List (List ℕ)) : Type 0 where
  pub front : List (List ℕ)
  pub whole : names ≡ front ++ left
  pub texts_are : AreTexts limits folder.before.files front texts
  pub files : folder.now.files ≡ folder.before.files
  pub faults : FailsNoRead folder
  pub missed : folder.before.missed ≡ false → folder.now.missed ≡ false

-- The texts of a front of the names were read, and here is what came of the next.
pub record StopsAt (limits : Limits) (told : Option Files) (names : List (List ℕ)) (texts : List project.NamedText) (Here : List ℕ → Type 0) : Type 0 where
  pub front : List (List ℕ)
  pub name : List ℕ
  pub after : List (List ℕ)
  pub whole : names ≡ front ++ name ∷ after
  pub texts_are : AreTexts limits told front texts
  pub here : Here name

-- What reading the files of these names comes to, of which these are the texts so far.
abbrev pub ReadsAll : {T : Type 0} → Limits → FolderRun → List (List ℕ) → List NamedText → Result T FileEnd → Type 0
ReadsAll limits folder names texts (Ok _) = HasTexts limits folder names (map text_seen texts) []
ReadsAll limits folder names texts (Err Failed) = FailsRead folder
ReadsAll limits folder names texts (Err Missing) = StopsAt limits folder.before.files names (map text_seen texts) (MissesFile folder)
ReadsAll limits folder names texts (Err (TooLarge line)) =
    StopsAt limits folder.before.files names (map text_seen texts) (λ name. ReadsPastLimit limits folder name line)
ReadsAll limits folder names texts (Err NoMemory) = ReadsOn folder false

-- A text of that name and those bytes, which are within the limits, or why not.
abbrev pub IsTextWithin : Limits → List ℕ → List ℕ → Result NamedText FileEnd → Type 0
IsTextWithin limits name bytes (Ok text) = (text_seen text ≡ record { name = name; bytes = bytes }) × IsWithin limits bytes
IsTextWithin limits name bytes (Err Failed) = ⊥
IsTextWithin limits name bytes (Err Missing) = ⊥
IsTextWithin limits name bytes (Err (TooLarge line)) = PassesIn limits bytes line
IsTextWithin limits name bytes (Err NoMemory) = ⊤
