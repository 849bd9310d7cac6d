use Rattle.term_walks.proofs.MeasureLemmas.{IsMeasureOf-more}
use Rattle.term_walks.proofs.measuring.+measure.Goals as goal

pub measure_all-loop-term-preserved : goal.measure_all-loop-term-preserved
measure_all-loop-term-preserved t c =
    IsMeasureOf-more c.args.terms.now c.loop-term.term-index c.term-item.result c.loop-term.all c.measure.result c.beside-all.result c.loop-term.invariant c.loop-term-test.true c.term-item.is c.measure.ensures c.beside-all.ensures.nodes c.beside-all.ensures.height
