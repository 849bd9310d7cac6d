use Rattle.std.proofs.lemmas.Result.{err_from_is_err_and}
use Rattle.text_reading.proofs.ReadingLaws.{HasRead-more, HasRead-fault, HasRead-past, HasRead-front}
use Rattle.text_reading.proofs.reading.read_pieces.Goals as goal

pub returns-in_err-n : goal.returns-in_err-n
returns-in_err-n g c =
    let p = err_from_is_err_and c.from_residual.result c.from_residual.ensures.1 in
    rw (p.1, p.2) (HasRead-fault c.pieces.invariant.2 c.in_err-n.ensures)

pub returns-in_err-count : goal.returns-in_err-count
returns-in_err-count g c =
    let p = err_from_is_err_and c.from_residual-in_err-count.result c.from_residual-in_err-count.ensures.1 in
    rw (p.1, p.2) (HasRead-past (HasRead-more c.pieces.invariant.2 c.in_ok-n.ensures)
    (rw c.pieces.invariant.0 at (c.in_err-count.ensures.counts c.pieces.text.items c.pieces.invariant.1)))

pub returns-in_err-extend_from_slice : goal.returns-in_err-extend_from_slice
returns-in_err-extend_from_slice g c =
    let p = err_from_is_err_and c.from_residual-in_err-extend_from_slice.result c.from_residual-in_err-extend_from_slice.ensures.1 in
    rw (p.1, p.2) (HasRead-front (HasRead-more c.pieces.invariant.2 c.in_ok-n.ensures))
