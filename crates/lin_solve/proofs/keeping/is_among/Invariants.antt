use Rattle.std.proofs.Common.{◌≡◌, take, false}
use Rattle.std.specs.List.{list_any}
use Rattle.lin_rows.specs.Same.{same}
use Rattle.lin_solve.specs.Lines.{rows_of}
use Rattle.lin_solve.proofs.keeping.is_among.Given as goal

abbrev pub invariant-loop-line : goal.invariant-loop-line
invariant-loop-line l = list_any (λ r. same r l.row) (rows_of l.lines (take l.line-index l.kept)) ≡ false
