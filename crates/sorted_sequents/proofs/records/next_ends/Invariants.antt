use Rattle.term_sorts.specs.Types.{record_types}
use Rattle.sorted_sequents.proofs.Rounds.{EndsBelow}
use Rattle.sorted_sequents.proofs.records.next_ends.Given as goal

abbrev pub invariant-loop-place : goal.invariant-loop-place
invariant-loop-place l = EndsBelow (record_types l.records) l.answers l.next.items l.place
