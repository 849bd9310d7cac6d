use Rattle.std.proofs.Common.{length, ◌-◌}
use Rattle.lk_io.specs.Run.{run}
use Rattle.lk_io.proofs.GiveAllLaws.{HasGiven}
use Rattle.lk_io.proofs.giving.give_all.Given as goal

abbrev pub invariant-loop-out : goal.invariant-loop-out
invariant-loop-out g l = HasGiven (run (g.S.Sink.state l.initial.sink) (g.S.Sink.state l.sink)) l.piece l.out

abbrev pub decreases-loop-out : goal.decreases-loop-out
decreases-loop-out g l = length l.piece - l.out
