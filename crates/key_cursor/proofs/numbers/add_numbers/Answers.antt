use Rattle.std.proofs.Common.{◌∙◌, ◌+◌, ◌-◌, arith}
use Rattle.key_rules.specs.Readers.{read_number}
use Rattle.key_cursor.specs.Reads.{itself, left}
use Rattle.key_cursor.proofs.Members.{member_joined}
use Rattle.key_cursor.proofs.numbers.add_numbers.Goals as goal

pub loop-preserved : goal.loop-preserved
loop-preserved c =
    c.loop.invariant
    ∙ member_joined itself read_number (c.args.count - c.loop.counter) (c.args.count - (c.loop.counter + 1)) c.loop.numbers c.push.new.self
    c.in_ok-read_number.field-0 (left c.loop.cursor) (left c.read_number.new.self) (omega arith) c.in_ok-read_number.ensures.reads c.in_ok-push.ensures.ok
