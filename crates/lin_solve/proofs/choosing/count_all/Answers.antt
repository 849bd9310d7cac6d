use Rattle.std.proofs.Common.{◌<◌, length, take, arith}
use Rattle.lin_solve.specs.Lines.{rows_of}
use Rattle.lin_solve.proofs.CountLemmas.{count_few, count_next, length-rows_taken}
use Rattle.lin_solve.proofs.choosing.count_all.Goals as goal

pub count_row-requires : goal.count_row-requires
count_row-requires c = λ v.
    let rows = rows_of c.args.lines.now (take c.loop-line.line-index c.args.kept.now) in
    let few : length rows < 2000 = omega (arith, length-rows_taken c.args.lines.now c.args.kept.now c.loop-line.line-index (omega arith)) in
    count_few rows v 2000 _ (c.loop-line.invariant v) few

pub loop-line-preserved : goal.loop-line-preserved
loop-line-preserved c = λ v.
    count_next c.args.lines.now c.args.kept.now c.loop-line.line-index c.index-lines-line.result v _ _ c.requires.lines c.loop-line-test.true c.index-lines-line.is (c.loop-line.invariant v) (c.in_ok-count_row.ensures v)
