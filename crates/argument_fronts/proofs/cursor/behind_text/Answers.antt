use denote.Enum.Bare.{same_true}
use Rattle.std.proofs.Common.{ap, sym, ◌∙◌}
use Rattle.slang_lexer.specs.contracts.token.TokenKind.{the_type}
use Rattle.slang_tokens.specs.Tok.{tok, toks}
use Rattle.argument_fronts.proofs.Fronts.{text_there}
use Rattle.argument_fronts.proofs.cursor.behind_text.Goals as goal

pub returns-then-is-clause-only : goal.returns-then-is-clause-only
returns-then-is-clause-only c =
    let first = c.in-Some.first.now in
    text_there c.args.kind (tok first) (toks c.args.tokens.now) (toks c.in-Some.rest.now) (ap toks c.in-Some.ensures.cases.0)
    (same_true the_type tt first.kind c.args.kind (sym c.is.ensures ∙ c.if-is.true))
