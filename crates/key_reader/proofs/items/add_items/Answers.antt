use Rattle.std.proofs.Common.{◌∙◌, ◌+◌, ◌-◌, arith}
use Rattle.key_rules.specs.Reading.{read_item}
use Rattle.key_cursor.specs.Reads.{left}
use Rattle.key_cursor.proofs.Members.{member_joined}
use Rattle.lk_programs.specs.LegData.{item_tree}
use Rattle.key_reader.proofs.items.add_items.Goals as goal

pub loop-preserved : goal.loop-preserved
loop-preserved c =
    c.loop.invariant
    ∙ member_joined item_tree (read_item c.args.depth) (c.args.count - c.loop.counter) (c.args.count - (c.loop.counter + 1)) c.loop.items c.push.new.self
    c.in_ok-item.item (left c.loop.cursor) (left c.read_item.new.cursor) (omega arith) c.in_ok-item.ensures c.in_ok-push.ensures.ok
