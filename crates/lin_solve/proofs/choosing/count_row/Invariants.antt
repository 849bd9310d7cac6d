use Rattle.std.proofs.Common.{◌≡◌, ℕ, take}
use Rattle.lin_rows.specs.Sum.{coefficient}
use Rattle.lin_solve.specs.Choice.{count_at, counted}
use Rattle.lin_solve.proofs.choosing.count_row.Given as goal

abbrev pub invariant-loop-part : goal.invariant-loop-part
invariant-loop-part l =
    (v : ℕ) → count_at l.counts v ≡ counted (count_at l.initial.counts v) (coefficient (take l.part-index l.row.parts) v)
