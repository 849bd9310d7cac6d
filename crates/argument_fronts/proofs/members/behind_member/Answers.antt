use Rattle.slang_tokens.specs.Tok.{toks}
use Rattle.argument_fronts.proofs.HeadFronts.{no_end}
use Rattle.argument_fronts.proofs.members.behind_member.Goals as goal

pub returns-in-None-behind_sign-clause-only : goal.returns-in-None-behind_sign-clause-only
returns-in-None-behind_sign-clause-only c = no_end (toks c.args.tokens.now) c.in-None.ensures.only c.in-None-behind_sign.ensures.only
