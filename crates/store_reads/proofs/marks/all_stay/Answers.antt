use Rattle.std.proofs.Common.{sym, arith}
use Rattle.store_reads.specs.Marks.{mark_at}
use Rattle.store_reads.proofs.Places.{all_pass}
use Rattle.store_reads.proofs.marks.all_stay.Goals as goal

pub returns : goal.returns
returns c = sym (all_pass (λ k. (mark_at c.args.marks.now k).stays) c.args.ids.now (λ k d l. c.loop-id.invariant k d (omega arith)))
