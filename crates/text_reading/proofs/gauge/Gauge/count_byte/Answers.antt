use Rattle.std.proofs.Common.{refl, ap, ◌+◌, arith}
use Rattle.text_reading.proofs.GaugeLaws.{HasCounted-newline, HasCounted-push, PassesIn-line}
use Rattle.text_reading.proofs.gauge.Gauge.count_byte.Goals as goal

pub returns-then-byte-eq10-clause-counts : goal.returns-then-byte-eq10-clause-counts
returns-then-byte-eq10-clause-counts c =
    λ text counted. HasCounted-newline c.args.byte counted (omega arith) c.if-byte-eq10.true refl refl refl refl

pub returns-then-self-2-clause-counts : goal.returns-then-self-2-clause-counts
returns-then-self-2-clause-counts c =
    λ text counted. PassesIn-line c.args.byte counted (ap (λ n. n + 1) c.from-line.ensures) c.if-self-2.true c.if-byte-eq10.false

pub returns-clause-counts : goal.returns-clause-counts
returns-clause-counts c =
    λ text counted. HasCounted-push c.args.byte counted (omega arith) c.if-byte-eq10.false (omega arith) refl refl refl refl
