use Rattle.std.proofs.Common.{◌≡◌, length, sym, ◌∙◌, subst, arith}
use Rattle.term_sorts.specs.Types.{record_types}
use Rattle.sorted_sequents.proofs.Rounds.{EndsBelow, ends_next, as_many}
use Rattle.sorted_sequents.proofs.records.next_ends.Goals as goal

pub returns : goal.returns
returns c =
    let records = record_types c.args.records.now in
    let all : c.loop-place.place ≡ length records = omega (arith, c.loop-place-test.false, c.loop-place.auto.place-end, as_many c.args.records.now) in
    ends_next records c.args.answers.now c.loop-place.next.items c.requires.known
    (subst (EndsBelow records c.args.answers.now c.loop-place.next.items) all c.loop-place.invariant)
