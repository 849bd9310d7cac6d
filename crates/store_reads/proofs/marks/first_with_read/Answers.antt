use Rattle.std.proofs.Common.{true, false, arith}
use Rattle.store_reads.specs.Marks.{mark_at}
use Rattle.store_reads.proofs.Places.{first_place-none, marked_part-found}
use Rattle.store_reads.proofs.marks.first_with_read.Goals as goal

pub returns-then-marks-id : goal.returns-then-marks-id
returns-then-marks-id c =
    marked_part-found c.args.marks.now c.args.ids.now c.loop-place.place (record { stays = false; reads = false }) c.requires c.loop-place-test.true c.if-marks-id.true c.loop-place.invariant

pub returns : goal.returns
returns c = first_place-none (λ k. (mark_at c.args.marks.now k).reads) c.args.ids.now (λ k d l. c.loop-place.invariant k d (omega arith))
