use Rattle.std.proofs.Common.{◌≡◌, [], List, map, take}
use Rattle.type_rules.specs.Meanings.{Declared}
use Rattle.project_files.specs.Files.{decl_of}
use Rattle.record_parts.specs.Chains.{types_seen}
use Rattle.signature_judging.specs.Knows.{Knows}
use Rattle.record_judging.specs.Written.{written_with}
use Rattle.record_judging.proofs.written.add_written.Given as goal

abbrev pub invariant-loop-decl : goal.invariant-loop-decl
invariant-loop-decl l =
    (names : List Declared) → Knows l.outline.names names → l.fn.types ≡ [] → types_seen l.types ≡ written_with names (map decl_of (take l.decl-index l.decls))
