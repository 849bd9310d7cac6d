use Rattle.std.proofs.Common.{map}
use Rattle.key_rules.specs.Readers.{read_list}
use Rattle.key_rules.specs.Reading.{read_type}
use Rattle.key_cursor.specs.Reads.{left}
use Rattle.key_cursor.proofs.Members.{list_read}
use Rattle.lk_claims.specs.Claim.{value_type}
use Rattle.key_reader.proofs.legs.read_records.Goals as goal

pub returns : goal.returns
returns c =
    list_read (map value_type) (read_list (read_type c.args.depth)) c.in_ok-count.count c.new-records.result c.add_records.new.records (left c.args.cursor.now)
    (left c.read_count.new.self) (left c.add_records.new.cursor) c.new-records.ensures c.in_ok-count.ensures.reads c.in_ok-add_records.ensures
