use Rattle.key_rules.specs.Reading.{read_item}
use Rattle.key_cursor.specs.Reads.{left}
use Rattle.key_cursor.proofs.Members.{list_read, members_end, count_ends}
use Rattle.lk_programs.specs.LegData.{item_tree}
use Rattle.key_reader.proofs.items.read_items.Goals as goal

pub returns : goal.returns
returns c =
    list_read item_tree (read_item c.args.depth) c.in_ok-count.count c.new-items.result c.add_items.new.items (left c.args.cursor.now) (left c.read_count.new.self)
    (left c.add_items.new.cursor) c.new-items.ensures c.in_ok-count.ensures.reads c.in_ok-add_items.ensures
