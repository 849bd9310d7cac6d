use Rattle.std.proofs.Common.{◌≡◌, map, take}
use Rattle.type_rules.specs.Projects.{in_order}
use Rattle.project_files.specs.Files.{file_of, file_seen}
use Rattle.project_files.proofs.files.in_order.Given as goal

abbrev pub invariant-loop-file : goal.invariant-loop-file
invariant-loop-file l = map file_of l.ordered.items ≡ in_order (map file_seen (take l.file-index l.files))
