use Rattle.std.proofs.Common.{◌∙◌, take, ◌++◌}
use Rattle.std.proofs.lemmas.Result.{err_from_is_err_and}
use Rattle.text_reading.proofs.GaugeLaws.{HasCounted-more, PassesIn-more}
use Rattle.text_reading.proofs.gauge.Gauge.count.Goals as goal

pub returns-in_err-count_byte-clause-counts : goal.returns-in_err-count_byte-clause-counts
returns-in_err-count_byte-clause-counts c =
    λ text counted.
    let p = err_from_is_err_and c.from_residual.result c.from_residual.ensures.1 in
    rw (p.1, p.2) (PassesIn-more text c.args.piece.now c.loop-byte.byte-index c.loop-byte-test.true
    (rw c.loop-byte.invariant.0 at
    (c.in_err-count_byte.ensures.counts (text ++ take c.loop-byte.byte-index c.args.piece.now) (c.loop-byte.invariant.1 text counted))))

pub loop-byte-preserved : goal.loop-byte-preserved
loop-byte-preserved c = (
  c.count_byte.ensures.limits ∙ c.loop-byte.invariant.0,
  λ text counted.
      HasCounted-more text c.args.piece.now c.loop-byte.byte-index c.loop-byte-test.true
      (c.in_ok-count_byte.ensures.counts (text ++ take c.loop-byte.byte-index c.args.piece.now) (c.loop-byte.invariant.1 text counted)),
)
