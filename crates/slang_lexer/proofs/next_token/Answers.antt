use Rattle.slang_lexer.proofs.Tokens.{IsTokenPlace-from}
use Rattle.slang_lexer.proofs.next_token.Goals as goal

pub returns-in-Some-2-clause-place : goal.returns-in-Some-2-clause-place
returns-in-Some-2-clause-place c =
    IsTokenPlace-from c.args.text.now c.args.at c.in_ok-start.start c.in-Some.token c.in_ok-start.ensures.place.0 c.in-Some.ensures.begins c.in_ok-start.ensures.place.1
    c.in-Some.ensures.longest c.in-Some.ensures.cuts
