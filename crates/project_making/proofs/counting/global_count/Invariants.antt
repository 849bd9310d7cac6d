use Rattle.std.proofs.Common.{◌≡◌, filter_map, length, map, take}
use Rattle.type_rules.specs.Projects.{global_of}
use Rattle.project_files.specs.Files.{decl_of}
use Rattle.project_making.proofs.counting.global_count.Given as goal

abbrev pub invariant-loop-decl : goal.invariant-loop-decl
invariant-loop-decl l = l.count ≡ length (filter_map global_of (map decl_of (take l.decl-index l.decls)))
