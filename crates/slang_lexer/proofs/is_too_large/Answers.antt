use Rattle.std.proofs.Common.{◌^◌, MatchBool, Some, true, false, Bool, subst, ap, ◌∙◌, pos}
use Rattle.std.specs.Option.{SomeIff}
use Rattle.slang_lexer.specs.Spelling.{IsNumber}
use Rattle.slang_lexer.specs.Next.{value_of, bytes_of, IsWithinLimit}
use Rattle.slang_lexer.proofs.Fronts.{number_is}
use Rattle.slang_lexer.proofs.Tokens.{too_large_is}
use Rattle.slang_lexer.proofs.is_too_large.Goals as goal

weaken : (b : Bool) {K : Type 0} (P Q : Type 0) → K → MatchBool b P Q → MatchBool b (K × P) (K → Q)
weaken true P Q k h = (k, h)
weaken false P Q k h = λ _. h

pub returns-in-Number : goal.returns-in-Number
returns-in-Number c =
    let bytes = bytes_of c.args.text.now c.args.token in
    let value = subst (λ z. SomeIff c.number_value.result (IsNumber z × IsWithinLimit z) (pos (value_of z))) c.range.ensures.value c.number_value.ensures in
    let number = number_is bytes (c.requires.longest.spells ∙ ap Some c.in-Number.is) in
    weaken c.is_none.result _ _ c.in-Number.is (too_large_is c.number_value.result c.is_none.result (IsNumber bytes) (value_of bytes) (2 ^ 127) (pos (value_of bytes)) value c.is_none.ensures number)
