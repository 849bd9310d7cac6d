use Rattle.key_cursor.specs.Reads.{left}
use Rattle.key_reader.specs.Heads.{item_head_data}
use Rattle.key_reader.proofs.ItemHeads.{item_known, item_unknown}
use Rattle.key_reader.proofs.items.read_item.Goals as goal

pub returns-in-Some : goal.returns-in-Some
returns-in-Some c =
    item_known c.args.depth (left c.args.cursor.now) (left c.read_byte.new.self) (left c.read_behind.new.cursor) c.in_ok-byte.byte
    (item_head_data c.in-Some.head) c.read_behind.result c.in_ok-byte.ensures.reads c.in-Some.ensures c.read_behind.ensures

pub returns-in-None : goal.returns-in-None
returns-in-None c =
    item_unknown c.args.depth (left c.args.cursor.now) (left c.read_byte.new.self) c.in_ok-byte.byte c.in_ok-byte.ensures.reads c.in-None.ensures
