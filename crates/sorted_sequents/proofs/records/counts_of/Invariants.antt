use Rattle.std.proofs.Common.{◌≡◌, length, replicate}
use Rattle.term_sorts.specs.Types.{record_types}
use Rattle.sorted_sequents.specs.Records.{AreCounts}
use Rattle.sorted_sequents.proofs.records.counts_of.Given as goal

abbrev pub invariant-records : goal.invariant-records
invariant-records l = l.counts.items ≡ replicate l._record-index 0

abbrev pub invariant-rounds : goal.invariant-rounds
invariant-rounds l = AreCounts (record_types l.records) l._round l.counts.items
