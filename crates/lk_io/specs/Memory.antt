-- The sources, sinks and folders in memory, as contracts see them.
use Rattle.std.specs.Prelude.{◌≡◌, ℕ, Bool, false, List, ◌++◌, map, take, drop, length, min, string_bytes, Result, Ok, Err, Some}
use Rattle.lk_io.specs.Run.{one_more}
use Rattle.lk_io.specs.Source.{SourceState}
use Rattle.lk_io.specs.Sink.{SinkState}
use Rattle.lk_io.specs.Folder.{Files, FolderState, has_missed}
use Rattle.lk_io.specs.declared.sinks.SinkEnd.{SinkEnd}
use Rattle.lk_io.specs.declared.sinks.SinkEnd.TheVariants.{Failed, NoMemory}
use Rattle.lk_io.specs.declared.folders.NamedBytes.{NamedBytes}
use Rattle.lk_io.specs.declared.folders.Found.{Found}
use Rattle.lk_io.specs.declared.folders.FolderEnd.{FolderEnd}
use Rattle.lk_io.specs.declared.folders.FolderEnd.TheVariants.{Failed as ReadFailed}

pub record SourceInMemory : Type 0 where
  pub left : List ℕ
  -- one call moves at most so many bytes
  pub most : ℕ
  -- the calls that fail, counted from 1
  pub fail_at : List ℕ
  -- how many calls were made
  pub calls : ℕ
  pub faults : ℕ

pub record SinkInMemory : Type 0 where
  pub given : List ℕ
  -- how many bytes were handed on
  pub handed : ℕ
  pub most : ℕ
  -- the calls of `give` and `flush` that fail, counted from 1
  pub fail_at : List ℕ
  pub calls : ℕ
  pub faults : ℕ
  pub refusals : ℕ

pub record SureSinkInMemory : Type 0 where
  pub given : List ℕ
  pub handed : ℕ
  pub refusals : ℕ

-- All that is left is told.
abbrev pub source_state : SourceInMemory → SourceState
source_state s = record { left = Some s.left; faults = s.faults }

-- A call that fails is counted; another moves as many bytes as are left, fit the buffer and may go in one call.
abbrev pub TakesFromMemory : {E : Type 0} → SourceInMemory → ℕ → Result ℕ E → SourceInMemory → Type 0
TakesFromMemory before room (Ok n) now =
    (n ≡ min (min room before.most) (length before.left)) × (now ≡ record before { left = drop n before.left; calls = one_more before.calls })
TakesFromMemory before room (Err _) now = now ≡ record before { calls = one_more before.calls; faults = one_more before.faults }

-- What was given is told, and how much of it was handed on.
abbrev pub sink_state : SinkInMemory → SinkState
sink_state s = record { given = Some s.given; handed = Some s.handed; faults = s.faults; refusals = s.refusals }

-- A call that fails or finds no memory is counted; another takes as much of the piece as may go in one call.
abbrev pub GivesToMemory : SinkInMemory → List ℕ → Result ℕ SinkEnd → SinkInMemory → Type 0
GivesToMemory before piece (Ok n) now =
    (n ≡ min (length piece) before.most) × (now ≡ record before { given = before.given ++ take n piece; calls = one_more before.calls })
GivesToMemory before piece (Err Failed) now = now ≡ record before { calls = one_more before.calls; faults = one_more before.faults }
GivesToMemory before piece (Err NoMemory) now = now ≡ record before { calls = one_more before.calls; refusals = one_more before.refusals }

-- A call of `flush` is counted, and finds memory. One that does not fail hands on all.
abbrev pub FlushesMemory : {T : Type 0} → SinkInMemory → Result T SinkEnd → SinkInMemory → Type 0
FlushesMemory before (Ok _) now = now ≡ record before { handed = length before.given; calls = one_more before.calls }
FlushesMemory before (Err Failed) now = now ≡ record before { calls = one_more before.calls; faults = one_more before.faults }
FlushesMemory before (Err NoMemory) now = ⊥

-- What was given is told, and how much of it was handed on; no call fails.
abbrev pub sure_sink_state : SureSinkInMemory → SinkState
sure_sink_state s = record { given = Some s.given; handed = Some s.handed; faults = 0; refusals = s.refusals }

-- A call takes the whole piece, or finds no memory.
abbrev pub GivesSurely : SureSinkInMemory → List ℕ → Result ℕ SinkEnd → SureSinkInMemory → Type 0
GivesSurely before piece (Ok n) now = (n ≡ length piece) × (now ≡ record before { given = before.given ++ piece })
GivesSurely before piece (Err Failed) now = ⊥
GivesSurely before piece (Err NoMemory) now = now ≡ record before { refusals = one_more before.refusals }

-- files as pairs
abbrev pub named : List NamedBytes → Files
named files = map (λ file. (string_bytes file.name, file.bytes.items)) files

pub record FolderInMemory : Type 0 where
  pub files : Files
  -- the reads that fail, counted from 1
  pub fail_at : List ℕ
  pub calls : ℕ
  pub faults : ℕ
  -- whether the last read found no file
  pub missed : Bool

-- All files are told.
abbrev pub folder_state : FolderInMemory → FolderState
folder_state s = record { files = Some s.files; faults = s.faults; missed = s.missed }

-- A read that fails is counted; another tells of a file or of none.
abbrev pub ReadsMemory : FolderInMemory → Result Found FolderEnd → FolderInMemory → Type 0
ReadsMemory before (Err ReadFailed) now = now ≡ record before { calls = one_more before.calls; faults = one_more before.faults; missed = false }
ReadsMemory before result now = now ≡ record before { calls = one_more before.calls; missed = has_missed result }
