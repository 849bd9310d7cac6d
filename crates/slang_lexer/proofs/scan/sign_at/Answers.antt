use Rattle.std.proofs.Common.{◌∙◌, ap}
use Rattle.slang_lexer.specs.Scan.{first_at}
use Rattle.slang_lexer.specs.Spelling.{signs}
use Rattle.slang_lexer.proofs.Choices.{first_at-beginning, signs_spelled, no_sign_of_nothing, first_is}
use Rattle.slang_lexer.proofs.scan.sign_at.Goals as goal

pub returns-in-Some : goal.returns-in-Some
returns-in-Some c =
    let bytes = c.args.bytes.now in
    let first = c.in-Some.first.now in
    c.first_sign.ensures ∙ (ap (λ t. first_at t bytes) c.signs_from.ensures
    ∙ first_at-beginning signs bytes first (first_is bytes first c.in-Some.ensures.value) signs_spelled)

pub returns-in-None : goal.returns-in-None
returns-in-None c = no_sign_of_nothing c.args.bytes.now c.in-None.ensures.value
