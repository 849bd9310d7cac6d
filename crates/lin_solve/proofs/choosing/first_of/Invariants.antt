use Rattle.std.proofs.Common.{◌≡◌, None}
use Rattle.lin_solve.specs.Choice.{best_of}
use Rattle.lin_solve.proofs.choosing.first_of.Given as goal

-- the variables that are left bring the best so far to the best of all
abbrev pub invariant-loop-variable : goal.invariant-loop-variable
invariant-loop-variable l = best_of l.best l.variable-iterator ≡ best_of None l.counts.entries
