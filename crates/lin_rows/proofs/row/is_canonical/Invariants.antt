use Rattle.std.proofs.Common.{◌↔◌, drop}
use Rattle.lin_rows.specs.Inequality.{IsCanonical, RisesFrom}
use Rattle.lin_rows.proofs.row.is_canonical.Given as goal

-- the parts are canonical where those that are left rise from low on
abbrev pub invariant-loop-part : goal.invariant-loop-part
invariant-loop-part l = RisesFrom l.low (drop l.part-index l.parts) ↔ IsCanonical l.parts
