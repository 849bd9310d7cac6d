use Rattle.std.proofs.Common.{◌≡◌, ◌-◌, vec_len}
use Rattle.lk_io.specs.Run.{run}
use Rattle.text_reading.specs.Gauge.{HasCounted}
use Rattle.text_reading.proofs.ReadingLaws.{HasRead}
use Rattle.text_reading.proofs.reading.read_pieces.Given as goal

abbrev pub invariant-pieces : goal.invariant-pieces
invariant-pieces g l =
    (l.gauge.limits ≡ l.fn.limits) × HasCounted l.gauge l.text.items
    × HasRead (run (g.S.Source.state l.initial.source) (g.S.Source.state l.source)) l.text.items

abbrev pub decreases-pieces : goal.decreases-pieces
decreases-pieces g l = l.fn.limits.bytes - vec_len l.text
