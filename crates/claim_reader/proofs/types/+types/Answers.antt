use Rattle.std.proofs.Common.{◌-◌, arith}
use Rattle.key_cursor.specs.Reads.{left}
use Rattle.claim_reader.specs.Heads.{type_head_data}
use Rattle.claim_reader.proofs.TypeHeads.{type_known, type_unknown}
use Rattle.claim_reader.proofs.types.+types.Goals as goal

pub read_type-returns-in-Some : goal.read_type-returns-in-Some
read_type-returns-in-Some t c =
    type_known c.args.depth (c.args.depth - 1) (left c.args.cursor.now) (left c.read_byte.new.self) (left c.read_type_behind.new.cursor) c.in_ok-byte.byte
    (type_head_data c.in-Some.head) c.read_type_behind.result (omega arith) c.in_ok-byte.ensures.reads c.in-Some.ensures c.read_type_behind.ensures

pub read_type-returns-in-None : goal.read_type-returns-in-None
read_type-returns-in-None t c =
    type_unknown c.args.depth (c.args.depth - 1) (left c.args.cursor.now) (left c.read_byte.new.self) c.in_ok-byte.byte (omega arith)
    c.in_ok-byte.ensures.reads c.in-None.ensures
