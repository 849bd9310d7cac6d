use denote.Enum.Bare.{same_true}
use Rattle.std.proofs.Common.{◌≡◌, ◌==◌, ℕ, true, List, [], length, ap, sym, ◌∙◌, arith}
use Rattle.std.proofs.lemmas.List.{nil_from_length}
use Rattle.std.proofs.lemmas.Bool.Decides.{nat_tests}
use Rattle.slang_lexer.specs.contracts.token.TokenKind.{the_type}
use Rattle.slang_tokens.specs.Tok.{tok, toks}
use Rattle.argument_fronts.proofs.Fronts.{sign_there}
use Rattle.argument_fronts.proofs.cursor.behind_sign.Goals as goal

no_text : (n : ℕ) (text : List ℕ) → (length text == 0) ≡ true → length text ≡ 0
no_text n text h = grind (arith, nat_tests, h)

pub returns-then-is_empty-clause-only : goal.returns-then-is_empty-clause-only
returns-then-is_empty-clause-only c =
    let first = c.in-Some.first.now in
    let empty = no_text 0 first.text.now (sym c.is_empty.ensures ∙ c.if-is_empty.true) in
    sign_there c.args.kind (tok first) (toks c.args.tokens.now) (toks c.in-Some.rest.now) (ap toks c.in-Some.ensures.cases.0)
    (same_true the_type tt first.kind c.args.kind (sym c.is.ensures ∙ c.if-is.true)) (nil_from_length first.text.now empty)
