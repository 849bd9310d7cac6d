use Rattle.std.proofs.Common.{◌≡◌, filter_map, map, take}
use Rattle.type_rules.specs.Projects.{record_of}
use Rattle.project_files.specs.Files.{decl_of}
use Rattle.record_making.specs.Records.{record_seen}
use Rattle.record_making.proofs.found.records_among.Given as goal

abbrev pub invariant-loop-decl : goal.invariant-loop-decl
invariant-loop-decl l = map record_seen l.records.items ≡ filter_map record_of (map decl_of (take l.decl-index l.decls))
