use Rattle.std.proofs.Common.{refl}
use Rattle.std.proofs.lemmas.Result.{err_from_is_err_and}
use Rattle.std.proofs.lemmas.Option.{slice_get_read}
use Rattle.lin_rows.specs.Cut.{tightened}
use Rattle.elimination.specs.Elimination.{kept_with, and_then, started}
use Rattle.lin_solve.specs.Lines.{rows_of}
use Rattle.lin_solve.proofs.ProgressLemmas.{taken, ended_there}
use Rattle.lin_solve.proofs.starting.start.Goals as goal

pub returns-in_err-start_row-clause-end : goal.returns-in_err-start_row-clause-end
returns-in_err-start_row-clause-end c =
    let p = err_from_is_err_and c.from_residual.result c.from_residual.ensures.1 in
    rw (p.1, p.2)
    (ended_there (λ progress row. and_then progress (λ kept. kept_with kept (tightened row))) (λ e x. refl) (rows_of c.loop-i.lines.items c.loop-i.kept.lines.items) c.args.rows.now c.loop-i.i c.index-rows-i.result (started c.args.rows.now) _ c.loop-i-test.true c.index-rows-i.is c.loop-i.invariant.going c.in_err-start_row.ensures.end)

pub loop-i-preserved : goal.loop-i-preserved
loop-i-preserved c =
    let g = c.in_ok-start_row.ensures.goes in
    record {
      going = taken (λ progress row. and_then progress (λ kept. kept_with kept (tightened row))) (rows_of c.loop-i.lines.items c.loop-i.kept.lines.items) _ c.args.rows.now c.loop-i.i c.index-rows-i.result (started c.args.rows.now) c.loop-i-test.true c.index-rows-i.is c.loop-i.invariant.going g.going;
      table = g.table;
      derives = g.derives c.args.rows.now (slice_get_read c.args.rows.now _ c.loop-i.i c.index-rows-i.result refl c.loop-i-test.true c.index-rows-i.is) c.loop-i.invariant.derives;
    }
