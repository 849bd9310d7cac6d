use Rattle.std.proofs.Common.{◌≡◌}
use Rattle.std.specs.Io.KnownBytes.{Keeps}
use Rattle.lk_io.proofs.streams.StdSinkSink.give.Given as goal

abbrev pub invariant-tries : goal.invariant-tries
invariant-tries g l =
    (l.self-inside.faults ≡ l.initial.self-inside.faults) × Keeps (g.W.Write.contents l.initial.self-inside.writer) (g.W.Write.contents l.self-inside.writer)
