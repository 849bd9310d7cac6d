use Rattle.std.proofs.Common.{drop}
use Rattle.elimination.specs.Elimination.{Going}
use Rattle.lin_solve.specs.Lines.{rows_of}
use Rattle.lin_solve.specs.Sides.{combined_with_all}
use Rattle.lin_solve.proofs.TurnLemmas.{HasCombined}
use Rattle.lin_solve.proofs.turning.combine_all.Given as goal

-- the lower rows that are left bring the rows that stand to what all of them bring
abbrev pub invariant-loop-lower : goal.invariant-loop-lower
invariant-loop-lower l =
    HasCombined l.initial.lines.items l.lines.items l.kept (combined_with_all l.initial.lines.items l.uppers (Going (rows_of l.lines.items l.kept.lines.items)) (drop l.lower-index l.lowers))
    (combined_with_all l.initial.lines.items l.uppers (Going (rows_of l.initial.lines.items l.initial.kept.lines.items)) l.lowers)
