use Rattle.std.proofs.Common.{◌≡◌, [], List, filter_map, map, take}
use Rattle.type_rules.specs.Meanings.{Declared}
use Rattle.type_rules.specs.Projects.{record_of, records_from}
use Rattle.project_files.specs.Files.{decl_of}
use Rattle.record_parts.specs.Parts.{allowed_fields}
use Rattle.signature_judging.specs.Knows.{Knows}
use Rattle.record_judging.specs.Fields.{AreFields}
use Rattle.record_judging.specs.Written.{written_with}
use Rattle.record_judging.proofs.records.add_records.Given as goal

-- It is known of the fields of the records so far.
abbrev pub invariant-loop-decl : goal.invariant-loop-decl
invariant-loop-decl l =
    (names : List Declared) → Knows l.outline.names names → l.allowed ≡ allowed_fields (written_with names (map decl_of l.decls)) → l.fn.records ≡ []
    → AreFields l.records (records_from names (written_with names (map decl_of l.decls)) 0 (filter_map record_of (map decl_of (take l.decl-index l.decls))))
