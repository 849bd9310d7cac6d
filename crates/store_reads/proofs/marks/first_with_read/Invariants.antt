use Rattle.std.proofs.Common.{◌≡◌, ℕ, ◌<◌, get_or, false}
use Rattle.store_reads.specs.Marks.{mark_at}
use Rattle.store_reads.proofs.marks.first_with_read.Given as goal

abbrev pub invariant-loop-place : goal.invariant-loop-place
invariant-loop-place l = (k : ℕ) (d : ℕ) → k < l.place → (mark_at l.marks (get_or l.ids k d)).reads ≡ false
