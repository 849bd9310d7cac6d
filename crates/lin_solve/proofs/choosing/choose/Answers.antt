use Rattle.std.proofs.Common.{◌∙◌}
use Rattle.lin_solve.specs.Lines.{rows_of}
use Rattle.lin_solve.proofs.ChoiceLemmas.{first_of-table}
use Rattle.lin_solve.proofs.choosing.choose.Goals as goal

pub returns : goal.returns
returns c =
    c.first_of.ensures.first ∙ first_of-table (rows_of c.args.lines.now c.args.kept.now) c.in_ok-counts.counts c.first_of.ensures.unique c.in_ok-counts.ensures
