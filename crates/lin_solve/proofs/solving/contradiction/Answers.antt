use Rattle.std.proofs.Common.{get_or, ap, sym, ◌∙◌}
use Rattle.lin_rows.specs.Inequality.{is_contradiction}
use Rattle.lin_solve.proofs.KeptLemmas.{line_here}
use Rattle.lin_solve.proofs.LineLemmas.{row_of-got}
use Rattle.lin_solve.proofs.SolveLemmas.{some_contradiction}
use Rattle.lin_solve.proofs.solving.contradiction.Goals as goal

pub returns-then-is_contradiction : goal.returns-then-is_contradiction
returns-then-is_contradiction c =
    let lines = c.args.lines.now in
    let ks = c.args.kept.now in
    let i = c.loop-line.line-index in
    let here = line_here lines ks i 0 c.requires c.loop-line-test.true in
    let yes = ap is_contradiction (row_of-got lines (get_or ks i 0) c.index-lines-line.result here) ∙ sym c.if-is_contradiction.ensures in
    (here, yes, some_contradiction lines ks i 0 c.loop-line-test.true yes)
