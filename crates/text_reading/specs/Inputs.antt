-- What a command reads: the bytes of a source, and the files of a folder.
use Rattle.std.specs.Prelude.{◌≡◌, ℕ, List, IfSome}
use Rattle.lk_io.specs.Run.{Rose}
use Rattle.lk_io.specs.Source.{SourceRun, Tells}
use Rattle.lk_io.specs.Folder.{Files, FolderRun}
use Rattle.text_reading.specs.Reading.{HasNoFault}

pub record Input : Type 0 where
  -- the bytes of the source
  pub source : List ℕ
  -- the files of the folder
  pub files : Files

-- what the source and the folder told before a call, or before several, and what they tell now
pub record Inputs : Type 0 where
  pub source : SourceRun
  pub folder : FolderRun

-- Of what is told, the input is what was told.
pub record IsTold (inputs : Inputs) (input : Input) : Type 0 where
  pub source : Tells inputs.source.before.left input.source
  pub files : IfSome inputs.folder.before.files (λ files. files ≡ input.files)

-- No read of the folder failed.
abbrev pub FailsNoRead : FolderRun → Type 0
FailsNoRead folder = folder.now.faults ≡ folder.before.faults

-- No call of the source and no read of the folder failed.
pub record HaveNoFault (inputs : Inputs) : Type 0 where
  pub source : HasNoFault inputs.source
  pub folder : FailsNoRead inputs.folder

-- A call of the source failed, or a read of the folder.
pub data HaveFault (inputs : Inputs) : Type 0 where
  of_source : Rose inputs.source.before.faults inputs.source.now.faults → FailsNoRead inputs.folder → HaveFault inputs
  of_folder : Rose inputs.folder.before.faults inputs.folder.now.faults → HasNoFault inputs.source → HaveFault inputs
