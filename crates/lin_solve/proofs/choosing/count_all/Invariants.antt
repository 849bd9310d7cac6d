use Rattle.std.proofs.Common.{◌≡◌, ℕ, take}
use Rattle.lin_solve.specs.Choice.{count_at, count_of}
use Rattle.lin_solve.specs.Lines.{rows_of}
use Rattle.lin_solve.proofs.choosing.count_all.Given as goal

abbrev pub invariant-loop-line : goal.invariant-loop-line
invariant-loop-line l = (v : ℕ) → count_at l.counts v ≡ count_of (rows_of l.lines (take l.line-index l.kept)) v
