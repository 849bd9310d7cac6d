use Rattle.std.proofs.Common.{◌∷◌, sym}
use Rattle.slang_lexer.specs.declared.token.TokenKind.TheVariants as kind
use Rattle.slang_tokens.specs.Tok.{sign}
use Rattle.argument_lists.proofs.heads.written_head.Goals as goal

pub returns-in-None-clause-only : goal.returns-in-None-clause-only
returns-in-None-clause-only c = λ a h. c.in-None.ensures.only (sign kind.LeftParen h.left ∷ a.rest) (h.right, h.spelled)

pub returns-in-None-behind_sign-clause-only : goal.returns-in-None-behind_sign-clause-only
returns-in-None-behind_sign-clause-only c = λ a h.
    c.in-None-behind_sign.ensures.only a.rest (h.left, sym (c.in-Some.ensures.only.1 (sign kind.LeftParen h.left ∷ a.rest) (h.right, h.spelled)))
