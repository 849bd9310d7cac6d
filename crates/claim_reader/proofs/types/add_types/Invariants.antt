use Rattle.std.proofs.Common.{◌≡◌, ◌-◌, map}
use Rattle.key_rules.specs.Readers.{read_members}
use Rattle.key_rules.specs.Reading.{read_type}
use Rattle.key_cursor.specs.Reads.{joined, left}
use Rattle.lk_claims.specs.Claim.{value_type}
use Rattle.claim_reader.proofs.types.add_types.Given as goal

abbrev pub invariant-loop : goal.invariant-loop
invariant-loop l =
    joined (map value_type l.fn.types) (read_members (read_type l.depth) l.count) (left l.fn.cursor)
    ≡ joined (map value_type l.types) (read_members (read_type l.depth) (l.count - l.counter)) (left l.cursor)
