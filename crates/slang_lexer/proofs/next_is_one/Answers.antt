use Rattle.slang_lexer.proofs.Laws as law
use Rattle.slang_lexer.proofs.next_is_one.Goals as goal

pub returns : goal.returns
returns c = law.next_is_one
