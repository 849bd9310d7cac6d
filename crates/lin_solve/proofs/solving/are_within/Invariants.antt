use Rattle.std.proofs.Common.{drop, ◌↔◌, IsTrue}
use Rattle.std.specs.List.{AllByRecursion}
use Rattle.lin_rows.specs.Inequality.{is_within}
use Rattle.lin_solve.proofs.solving.are_within.Given as goal

-- all are within where those that are left are
abbrev pub invariant-loop-row : goal.invariant-loop-row
invariant-loop-row l = AllByRecursion (λ row. IsTrue (is_within row)) (drop l.row-index l.rows) ↔ AllByRecursion (λ row. IsTrue (is_within row)) l.rows
