use Rattle.std.proofs.Common.{◌≡◌, length, replicate, false}
use Rattle.term_sorts.specs.Types.{record_types}
use Rattle.sorted_sequents.specs.Records.{AreEnds}
use Rattle.sorted_sequents.proofs.records.ends_of.Given as goal

abbrev pub invariant-records : goal.invariant-records
invariant-records l = l.answers.items ≡ replicate l._record-index false

abbrev pub invariant-rounds : goal.invariant-rounds
invariant-rounds l = AreEnds (record_types l.records) l._round l.answers.items
