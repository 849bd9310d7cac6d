use Rattle.std.proofs.Common.{◌≡◌, take, false}
use Rattle.std.specs.List.{list_any}
use Rattle.lin_rows.specs.Inequality.{is_contradiction}
use Rattle.lin_solve.specs.Lines.{rows_of}
use Rattle.lin_solve.proofs.solving.contradiction.Given as goal

abbrev pub invariant-loop-line : goal.invariant-loop-line
invariant-loop-line l = list_any is_contradiction (rows_of l.lines (take l.line-index l.kept)) ≡ false
