use Rattle.std.proofs.Common.{◌≡◌, length}
use Rattle.store_reads.specs.Marks.{AreMarked}
use Rattle.store_reads.proofs.marks.mark_all.Given as goal

abbrev pub invariant-loop-id : goal.invariant-loop-id
invariant-loop-id l = AreMarked l.store l.marks × (length l.marks ≡ l.id)
