use Rattle.std.proofs.Common.{◌≡◌, length}
use Rattle.store_substitution.specs.Loose.{AreDepths}
use Rattle.store_substitution.proofs.depths.measure_depths.Given as goal

abbrev pub invariant-loop-id : goal.invariant-loop-id
invariant-loop-id l =
    AreDepths l.store l.depths × (length l.depths ≡ l.id)
