use Rattle.std.proofs.Common.{◌≡◌, List, map, take}
use Rattle.type_rules.specs.Meanings.{Declared}
use Rattle.type_rules.specs.Projects.{records_from}
use Rattle.record_parts.specs.Parts.{allowed_fields}
use Rattle.signature_judging.specs.Knows.{Knows}
use Rattle.record_making.specs.Records.{AreRecords, record_seen, written_of}
use Rattle.record_making.proofs.records.made_each.Given as goal

-- The records so far are made.
abbrev pub invariant-loop-n : goal.invariant-loop-n
invariant-loop-n l =
    (names : List Declared) → Knows l.outline.names names → l.allowed ≡ allowed_fields (written_of names (map record_seen l.records))
    → AreRecords l.made (map record_seen (take l.n l.records)) (records_from names (written_of names (map record_seen l.records)) 0 (map record_seen (take
    l.n l.records)))
