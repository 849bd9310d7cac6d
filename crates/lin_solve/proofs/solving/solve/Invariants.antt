use Rattle.lin_cert.specs.Certificate.{IsDerivation}
use Rattle.elimination.specs.Elimination.{variables}
use Rattle.elimination.proofs.Turns.{live}
use Rattle.lin_solve.specs.Lines.{Stands, rows_of}
use Rattle.lin_solve.proofs.SolveLemmas.{IsUnderWay}
use Rattle.lin_solve.proofs.solving.solve.Given as goal

-- the rows that stand are those of the definition after some turns, and their lines are derived from the given rows
abbrev pub invariant-turns : goal.invariant-turns
invariant-turns l = record {
  under_way : IsUnderWay l.rows (rows_of l.initial.lines.items l.initial.kept.items) (rows_of l.lines.items l.kept.items);
  stands : Stands l.lines.items l.kept.items;
  derives : IsDerivation l.rows l.lines.items;
}

-- the variables that are left, of those at the start
abbrev pub decreases-turns : goal.decreases-turns
decreases-turns l = live (variables (rows_of l.initial.lines.items l.initial.kept.items)) (rows_of l.lines.items l.kept.items)
