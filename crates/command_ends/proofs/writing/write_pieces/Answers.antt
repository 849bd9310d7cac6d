use Rattle.std.proofs.Common.{ℕ, List, Bor}
use Rattle.std.proofs.lemmas.Result.{err_from_is_err_and}
use Rattle.command_ends.proofs.WritingLaws.{WritesPart-piece}
use Rattle.command_ends.proofs.writing.write_pieces.Goals as goal

pub returns-in_err-give_all : goal.returns-in_err-give_all
returns-in_err-give_all g c =
    let p = err_from_is_err_and c.from_residual.result c.from_residual.ensures.1 in
    let text = λ (piece : Bor (List ℕ)). piece.now in
    rw (p.1, p.2)
    (WritesPart-piece text c.args.pieces.now c.loop-piece.piece-index _ c.loop-piece-test.true c.loop-piece.invariant c.in_err-give_all.ensures.gives)
