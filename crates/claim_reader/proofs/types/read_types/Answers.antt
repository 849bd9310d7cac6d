use Rattle.key_rules.specs.Reading.{read_type}
use Rattle.key_cursor.specs.Reads.{left}
use Rattle.key_cursor.proofs.Members.{list_read}
use Rattle.lk_claims.specs.Claim.{value_type}
use Rattle.claim_reader.proofs.types.read_types.Goals as goal

pub returns : goal.returns
returns c =
    list_read value_type (read_type c.args.depth) c.in_ok-count.count c.new-types.result c.add_types.new.types (left c.args.cursor.now)
    (left c.read_count.new.self) (left c.add_types.new.cursor) c.new-types.ensures c.in_ok-count.ensures.reads c.in_ok-add_types.ensures
