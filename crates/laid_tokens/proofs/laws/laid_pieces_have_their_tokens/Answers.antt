use Rattle.laid_tokens.proofs.Whole.{laid_pieces_have_their_tokens}
use Rattle.laid_tokens.proofs.laws.laid_pieces_have_their_tokens.Goals as goal

pub returns : goal.returns
returns c = laid_pieces_have_their_tokens
