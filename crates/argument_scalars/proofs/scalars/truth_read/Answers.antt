use Rattle.slang_tokens.specs.Tok.{toks}
use Rattle.argument_scalars.proofs.Constants.{truth_only, falsity_only, neither}
use Rattle.argument_scalars.proofs.scalars.truth_read.Goals as goal

pub returns-in-None-behind_sign-clause-only : goal.returns-in-None-behind_sign-clause-only
returns-in-None-behind_sign-clause-only c names records a h =
    neither names records (toks c.args.tokens.now) c.in-None.ensures.only c.in-None-behind_sign.ensures.only a h

pub returns-in-Some-clause-only : goal.returns-in-Some-clause-only
returns-in-Some-clause-only c names records =
    truth_only names records (toks c.args.tokens.now) (toks c.in-Some.rest.now) c.in-Some.ensures.only

pub returns-in-Some-behind_sign-clause-only : goal.returns-in-Some-behind_sign-clause-only
returns-in-Some-behind_sign-clause-only c names records =
    falsity_only names records (toks c.args.tokens.now) (toks c.in-Some-behind_sign.rest.now) c.in-None.ensures.only c.in-Some-behind_sign.ensures.only
