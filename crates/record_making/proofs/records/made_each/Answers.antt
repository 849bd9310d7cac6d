use Rattle.record_making.proofs.Making.{no_records, record_next}
use Rattle.record_making.specs.Records.{record_seen, written_of}
use Rattle.std.proofs.Common.{map}
use Rattle.record_making.proofs.records.made_each.Goals as goal

pub loop-n-preserved : goal.loop-n-preserved
loop-n-preserved c = λ names knows allowed.
    let records = c.args.records.now in
    let n = c.loop-n.n in
    record_next names records n c.index-records-n.result c.args.allowed.now c.allowed_of-own.result.now c.loop-n.made c.push.new.self
    c.in_ok-made_record.field-0
    c.loop-n-test.true c.index-records-n.is c.allowed_of-own.ensures allowed c.in_ok-push.ensures.ok c.in_ok-made_record.ensures.name
    (c.in_ok-made_record.ensures.fields names (written_of names (map record_seen records)) n knows) (c.loop-n.invariant names knows allowed)

pub loop-n-init : goal.loop-n-init
loop-n-init c = λ names knows allowed. no_records c.new-made.result c.new-made.ensures
