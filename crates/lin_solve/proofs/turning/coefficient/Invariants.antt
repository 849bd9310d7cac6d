use Rattle.std.proofs.Common.{◌≡◌, drop}
use Rattle.lin_rows.specs.Inequality.{RisesFrom}
use Rattle.lin_rows.specs.Sum.{coefficient}
use Rattle.lin_solve.proofs.turning.coefficient.Given as goal

-- the coefficient is that in the parts that are left
abbrev pub invariant-loop-part : goal.invariant-loop-part
invariant-loop-part l = record {
  left : coefficient (drop l.part-index l.row.parts) l.variable ≡ coefficient l.row.parts l.variable;
  rises : RisesFrom 0 (drop l.part-index l.row.parts);
}
