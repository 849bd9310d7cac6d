use Rattle.std.proofs.Common.{◌∙◌, ◌+◌, ◌-◌, map, arith}
use Rattle.key_rules.specs.Readers.{read_list}
use Rattle.key_rules.specs.Reading.{read_type}
use Rattle.key_cursor.specs.Reads.{left}
use Rattle.key_cursor.proofs.Members.{member_joined}
use Rattle.lk_claims.specs.Claim.{value_type}
use Rattle.key_reader.proofs.legs.add_records.Goals as goal

pub loop-preserved : goal.loop-preserved
loop-preserved c =
    c.loop.invariant
    ∙ member_joined (map value_type) (read_list (read_type c.args.depth)) (c.args.count - c.loop.counter) (c.args.count - (c.loop.counter + 1)) c.loop.records
    c.push.new.self c.in_ok-fields.fields (left c.loop.cursor) (left c.read_types.new.cursor) (omega arith) c.in_ok-fields.ensures c.in_ok-push.ensures.ok
