use Rattle.key_cursor.specs.Reads.{left}
use Rattle.key_reader.proofs.LegParts.{leg_read, leg_refused}
use Rattle.key_reader.proofs.legs.read_leg.Goals as goal
use Rattle.std.proofs.Common.{arith}

pub returns : goal.returns
returns c =
    leg_read c.args.depth (left c.args.cursor.now) (left c.read_byte.new.self) (left c.read_records.new.cursor) (left c.read_types.new.cursor)
    (left c.read_items.new.cursor) c.in_ok-first.first c.read_records.result c.read_types.result c.read_items.result c.in_ok-records.records c.in_ok-records.vars
    c.in_ok-records.items (omega arith) c.in_ok-first.ensures.reads c.read_records.ensures c.read_types.ensures c.read_items.ensures
    c.in_ok-records.ensures.parts.0 c.in_ok-records.ensures.parts.1 c.in_ok-records.ensures.parts.2
