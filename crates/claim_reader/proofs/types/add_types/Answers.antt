use Rattle.std.proofs.Common.{◌∙◌, ◌+◌, ◌-◌, arith}
use Rattle.key_rules.specs.Reading.{read_type}
use Rattle.key_cursor.specs.Reads.{left}
use Rattle.key_cursor.proofs.Members.{member_joined}
use Rattle.lk_claims.specs.Claim.{value_type}
use Rattle.claim_reader.proofs.types.add_types.Goals as goal

pub loop-preserved : goal.loop-preserved
loop-preserved c =
    c.loop.invariant
    ∙ member_joined value_type (read_type c.args.depth) (c.args.count - c.loop.counter) (c.args.count - (c.loop.counter + 1)) c.loop.types c.push.new.self
    c.in_ok-ty.ty (left c.loop.cursor) (left c.read_type.new.cursor) (omega arith) c.in_ok-ty.ensures c.in_ok-push.ensures.ok
