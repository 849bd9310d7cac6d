use Rattle.std.proofs.Common.{take}
use Rattle.std.specs.List.{flat_map}
use Rattle.lk_io.specs.Run.{run}
use Rattle.lk_io.specs.GiveAll.{GivesWhole}
use Rattle.command_ends.proofs.writing.write_pieces.Given as goal

abbrev pub invariant-loop-piece : goal.invariant-loop-piece
invariant-loop-piece g l =
    GivesWhole (run (g.S.Sink.state l.initial.sink) (g.S.Sink.state l.sink)) (flat_map (λ piece. piece.now) (take l.piece-index l.pieces))
