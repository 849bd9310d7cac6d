use Rattle.std.proofs.Common.{◌≡◌, drop}
use Rattle.lk_io.specs.Folder.{file_of}
use Rattle.lk_io.specs.Memory.{named}
use Rattle.lk_io.proofs.mem_folder.find.Given as goal

-- No file that was looked at has the name.
abbrev pub invariant-files : goal.invariant-files
invariant-files l = file_of (named l.files) l.name ≡ file_of (named (drop l.file-index l.files)) l.name
