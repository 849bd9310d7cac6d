use Rattle.std.proofs.Common.{drop}
use Rattle.elimination.specs.Elimination.{Going}
use Rattle.lin_solve.specs.Lines.{rows_of}
use Rattle.lin_solve.specs.Sides.{combined_with}
use Rattle.lin_solve.proofs.TurnLemmas.{HasCombined}
use Rattle.lin_solve.proofs.turning.combine_with.Given as goal

-- the upper rows that are left bring the rows that stand to what all of them bring
abbrev pub invariant-loop-upper : goal.invariant-loop-upper
invariant-loop-upper l =
    HasCombined l.initial.lines.items l.lines.items l.kept (combined_with l.initial.lines.items (drop l.upper-index l.uppers) (Going (rows_of l.lines.items l.kept.lines.items)) l.lower)
    (combined_with l.initial.lines.items l.uppers (Going (rows_of l.initial.lines.items l.initial.kept.lines.items)) l.lower)
