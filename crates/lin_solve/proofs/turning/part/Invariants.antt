use Rattle.std.proofs.Common.{◌≤◌, length, take}
use Rattle.lin_solve.specs.Lines.{rows_of}
use Rattle.lin_solve.specs.Sides.{IsParted}
use Rattle.lin_solve.proofs.turning.part.Given as goal

abbrev pub invariant-loop-line : goal.invariant-loop-line
invariant-loop-line l = record {
  parted : IsParted l.lines (rows_of l.lines (take l.line-index l.kept)) l.variable l.parted;
  few : length l.parted.without.items ≤ l.line-index;
}
