-- What a folder of files tells, and what a read does to that.
use Rattle.std.specs.Prelude.{◌≡◌, ℕ, ◌+◌, ◌≤◌, Bool, true, false, List, [], ◌∷◌, take, length, bytes_eq, if◌then◌else◌, Option, Some, None, IfSome, Result, Ok, Err, IfOk, OnErr}
use Rattle.lk_io.specs.Run.{Run, Rose}
use Rattle.lk_io.specs.declared.folders.Found.{Found}
use Rattle.lk_io.specs.declared.folders.Found.TheVariants.{File, Missing}
use Rattle.lk_io.specs.declared.folders.FolderEnd.{FolderEnd}
use Rattle.lk_io.specs.declared.folders.FolderEnd.TheVariants.{Failed, NoMemory}

-- names of files, each with the bytes of its file
abbrev pub Files : Type 0
Files = List (List ℕ × List ℕ)

-- the bytes of the first file of a name, where there is one
abbrev pub file_of : Files → List ℕ → Option (List ℕ)
file_of [] name = None
file_of (file ∷ files) name = if bytes_eq file.0 name then Some file.1 else file_of files name

pub record FolderState : Type 0 where
  -- its files, where it tells them
  pub files : Option Files
  -- how many of its reads have failed
  pub faults : ℕ
  -- whether the last read found no file
  pub missed : Bool

abbrev pub FolderRun : Type 0
FolderRun = Run FolderState

abbrev pub has_missed : Result Found FolderEnd → Bool
has_missed (Ok Missing) = true
has_missed (Ok File) = false
has_missed (Err end) = false

-- What a read has found: the bytes of a file up to the first past the limit, or no file.
abbrev pub HasFound : Option (List ℕ) → ℕ → List ℕ → Found → Type 0
HasFound (Some bytes) limit buffer File = buffer ≡ take (limit + 1) bytes
HasFound (Some bytes) limit buffer Missing = ⊥
HasFound None limit buffer File = ⊥
HasFound None limit buffer Missing = buffer ≡ []

-- A read that failed is counted, and no other is.
abbrev pub HasCause : FolderRun → Result Found FolderEnd → Type 0
HasCause run (Ok found) = run.now.faults ≡ run.before.faults
HasCause run (Err Failed) = Rose run.before.faults run.now.faults
HasCause run (Err NoMemory) = run.now.faults ≡ run.before.faults

-- One `read` of the file of that name, where the buffer then holds `buffer`.
pub record Reads (run : FolderRun) (name : List ℕ) (limit : ℕ) (buffer : List ℕ) (result : Result Found FolderEnd) : Type 0 where
  -- the files stay
  pub files : run.now.files ≡ run.before.files
  pub found : IfOk result (λ found. IfSome run.before.files (λ files. HasFound (file_of files name) limit buffer found))
  pub bounded : length buffer ≤ limit + 1
  -- where no file was read there is nothing in the buffer
  pub empty : OnErr result (buffer ≡ [])
  pub missed : run.now.missed ≡ has_missed result
  pub cause : HasCause run result
