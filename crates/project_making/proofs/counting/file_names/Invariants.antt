use Rattle.std.proofs.Common.{◌≡◌, map, take}
use Rattle.project_files.specs.Files.{file_of}
use Rattle.project_making.specs.Members.{file_name}
use Rattle.project_making.proofs.counting.file_names.Given as goal

abbrev pub invariant-loop-file : goal.invariant-loop-file
invariant-loop-file l = l.names ≡ map file_name (map file_of (take l.file-index l.files))
