use Rattle.slang_tokens.specs.Tok.{toks}
use Rattle.argument_fronts.proofs.NumberFronts.{below_split}
use Rattle.argument_fronts.proofs.numbers.below_at.Goals as goal

pub returns-in-None-clause-only : goal.returns-in-None-clause-only
returns-in-None-clause-only c = λ a h. let s = below_split (toks c.args.tokens.now) a h in c.in-None.ensures.only s.0 s.1
