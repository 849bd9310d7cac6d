use Rattle.std.proofs.Common.{sym, ◌∙◌}
use Rattle.lin_solve.proofs.KeptLemmas.{any_here}
use Rattle.lin_solve.proofs.keeping.is_among.Goals as goal

pub returns-then-has_row : goal.returns-then-has_row
returns-then-has_row c = sym (any_here c.args.lines.now c.args.kept.now c.loop-line.line-index _ c.args.row.now c.loop-line-test.true (sym c.has_row.ensures ∙ c.if-has_row.true))
