use Rattle.std.proofs.Common.{◌≡◌, fold, drop}
use Rattle.lin_rows.specs.Cut.{tightened}
use Rattle.lin_cert.specs.Certificate.{IsDerivation}
use Rattle.elimination.specs.Elimination.{kept_with, and_then, started, Going}
use Rattle.lin_solve.specs.Lines.{HasTable, rows_of}
use Rattle.lin_solve.proofs.starting.start.Given as goal

-- the rows that are left bring those that stand to what the definition starts with
abbrev pub invariant-loop-i : goal.invariant-loop-i
invariant-loop-i l = record {
  going : fold (λ progress row. and_then progress (λ kept. kept_with kept (tightened row))) (Going (rows_of l.lines.items l.kept.lines.items)) (drop l.i l.rows) ≡ started l.rows;
  table : HasTable l.lines.items l.kept;
  derives : IsDerivation l.rows l.lines.items;
}
