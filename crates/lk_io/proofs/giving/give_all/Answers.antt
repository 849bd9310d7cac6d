use Rattle.std.proofs.lemmas.List.{take_rest}
use Rattle.lk_io.proofs.GiveAllLaws.{HasGiven-more}
use Rattle.lk_io.proofs.giving.give_all.Goals as goal

pub loop-out-preserved : goal.loop-out-preserved
loop-out-preserved g c = HasGiven-more c.in-Ok.n c.loop-out.invariant (rw (take_rest c.args.piece.now c.loop-out.out) at c.in-Ok.ensures)
