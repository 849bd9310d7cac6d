use Rattle.lk_terms.proofs.TellingClosed.{TellAllClosed-more, TellAllClosed-not}
use Rattle.lk_terms.proofs.closed.+closed.Goals as goal

pub are_closed_below-returns-then-not-is_closed_below : goal.are_closed_below-returns-then-not-is_closed_below
are_closed_below-returns-then-not-is_closed_below t c =
    TellAllClosed-not c.args.place c.args.terms.now c.loop-term.term-index c.term-item.result c.loop-term-test.true c.term-item.is c.if-not-is_closed_below.ensures

pub are_closed_below-loop-term-preserved : goal.are_closed_below-loop-term-preserved
are_closed_below-loop-term-preserved t c =
    TellAllClosed-more c.args.place c.args.terms.now c.loop-term.term-index c.term-item.result c.loop-term.invariant c.loop-term-test.true c.term-item.is c.if-not-is_closed_below.ensures
