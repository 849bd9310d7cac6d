use Rattle.std.proofs.Common.{◌≡◌, ◌-◌, map}
use Rattle.key_rules.specs.Readers.{read_members}
use Rattle.key_rules.specs.Reading.{read_item}
use Rattle.key_cursor.specs.Reads.{joined, left}
use Rattle.lk_programs.specs.LegData.{item_tree}
use Rattle.key_reader.proofs.items.add_items.Given as goal

abbrev pub invariant-loop : goal.invariant-loop
invariant-loop l =
    joined (map item_tree l.fn.items) (read_members (read_item l.depth) l.count) (left l.fn.cursor)
    ≡ joined (map item_tree l.items) (read_members (read_item l.depth) (l.count - l.counter)) (left l.cursor)
