use Rattle.std.proofs.Common.{◌≡◌, length, sym, ◌∙◌, subst, arith}
use Rattle.term_sorts.specs.Types.{record_types}
use Rattle.sorted_sequents.proofs.Rounds.{CountsBelow, counts_next, as_many}
use Rattle.sorted_sequents.proofs.records.next_counts.Goals as goal

pub returns : goal.returns
returns c =
    let records = record_types c.args.records.now in
    let all : c.loop-place.place ≡ length records = omega (arith, c.loop-place-test.false, c.loop-place.auto.place-end, as_many c.args.records.now) in
    counts_next records c.args.counts.now c.loop-place.next.items c.requires.known
    (subst (CountsBelow records c.args.counts.now c.loop-place.next.items) all c.loop-place.invariant)
