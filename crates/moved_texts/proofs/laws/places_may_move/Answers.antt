use Rattle.moved_texts.proofs.Declarations.{places_may_move}
use Rattle.moved_texts.proofs.laws.places_may_move.Goals as goal

pub returns : goal.returns
returns c = places_may_move
