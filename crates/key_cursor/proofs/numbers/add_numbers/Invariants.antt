use Rattle.std.proofs.Common.{◌≡◌, ◌-◌, map}
use Rattle.key_rules.specs.Readers.{read_members, read_number}
use Rattle.key_cursor.specs.Reads.{itself, joined, left}
use Rattle.key_cursor.proofs.numbers.add_numbers.Given as goal

abbrev pub invariant-loop : goal.invariant-loop
invariant-loop l =
    joined (map itself l.fn.numbers) (read_members read_number l.count) (left l.fn.cursor)
    ≡ joined (map itself l.numbers) (read_members read_number (l.count - l.counter)) (left l.cursor)
