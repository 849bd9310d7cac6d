use Rattle.std.proofs.Common.{◌≡◌, ◌-◌, drop, length}
use Rattle.store_substitution.specs.Loose.{greatest_depth}
use Rattle.store_substitution.proofs.depths.greatest.Given as goal

abbrev pub invariant-loop-count : goal.invariant-loop-count
invariant-loop-count l =
    l.greatest ≡ greatest_depth l.depths (drop (length l.ids - l.count) l.ids)
