use Rattle.std.proofs.Common.{◌≡◌, ℕ, ◌<◌, get_or, true}
use Rattle.store_reads.specs.Marks.{mark_at}
use Rattle.store_reads.proofs.marks.all_stay.Given as goal

abbrev pub invariant-loop-id : goal.invariant-loop-id
invariant-loop-id l = (k : ℕ) (d : ℕ) → k < l.id-index → (mark_at l.marks (get_or l.ids k d)).stays ≡ true
