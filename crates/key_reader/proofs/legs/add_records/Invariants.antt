use Rattle.std.proofs.Common.{◌≡◌, ◌-◌, map}
use Rattle.key_rules.specs.Readers.{read_list, read_members}
use Rattle.key_rules.specs.Reading.{read_type}
use Rattle.key_cursor.specs.Reads.{joined, left}
use Rattle.lk_claims.specs.Claim.{value_type}
use Rattle.key_reader.proofs.legs.add_records.Given as goal

abbrev pub invariant-loop : goal.invariant-loop
invariant-loop l =
    joined (map (map value_type) l.fn.records) (read_members (read_list (read_type l.depth)) l.count) (left l.fn.cursor)
    ≡ joined (map (map value_type) l.records) (read_members (read_list (read_type l.depth)) (l.count - l.counter)) (left l.cursor)
