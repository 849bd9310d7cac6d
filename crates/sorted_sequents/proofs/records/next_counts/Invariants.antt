use Rattle.term_sorts.specs.Types.{record_types}
use Rattle.sorted_sequents.proofs.Rounds.{CountsBelow}
use Rattle.sorted_sequents.proofs.records.next_counts.Given as goal

abbrev pub invariant-loop-place : goal.invariant-loop-place
invariant-loop-place l = CountsBelow (record_types l.records) l.counts l.next.items l.place
