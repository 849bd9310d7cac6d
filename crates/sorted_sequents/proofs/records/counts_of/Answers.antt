use Rattle.std.proofs.Common.{sym, subst, add-one}
use Rattle.term_sorts.specs.Types.{record_types}
use Rattle.sorted_sequents.specs.Records.{AreCounts}
use Rattle.sorted_sequents.proofs.records.counts_of.Goals as goal

pub rounds-preserved : goal.rounds-preserved
rounds-preserved c =
    let records = record_types c.args.records.now in
    subst (λ n. AreCounts records n c.in_ok-counts.counts.items) (sym (add-one c.rounds._round))
    (c.in_ok-counts.ensures c.rounds._round (subst (AreCounts records c.rounds._round) (sym c.as_slice.ensures.value) c.rounds.invariant))
