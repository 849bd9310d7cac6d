use Rattle.slang_lexer.proofs.Tokens as law
use Rattle.slang_lexer.proofs.next_is_spelled.Goals as goal

pub returns : goal.returns
returns c = law.next_is_spelled
