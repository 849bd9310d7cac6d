use Rattle.std.proofs.Common.{arith, sym, ◌∙◌, subst, ap, ◌<◌, pos}
use Rattle.std.specs.Char.{is_ascii_digit}
use Rattle.std.specs.List.{prefix_len}
use Rattle.std.specs.Option.{SomeIff}
use Rattle.slang_lexer.specs.Spelling.{IsNumber}
use Rattle.slang_lexer.specs.Next.{IsWithinLimit, value_of}
use Rattle.slang_lexer.proofs.Fronts.{first_digit, no_digits}
use Rattle.slang_lexer.proofs.Tokens.{parsed}
use Rattle.slang_lexer.proofs.number_value.Goals as goal

pub returns-then-digits_len-eq0 : goal.returns-then-digits_len-eq0
returns-then-digits_len-eq0 c = λ p.
    no_digits c.args.digits.now (sym (c.digits_len.ensures ∙ ap (prefix_len is_ascii_digit) c.as_bytes.ensures.value) ∙ c.if-digits_len-eq0.true) p.0

pub returns-else-digits_len-eq0 : goal.returns-else-digits_len-eq0
returns-else-digits_len-eq0 c =
    let len = c.digits_len.ensures ∙ ap (prefix_len is_ascii_digit) c.as_bytes.ensures.value in
    let some : 0 < prefix_len is_ascii_digit c.args.digits.now = omega (arith, len, c.if-digits_len-eq0.false) in
    subst (λ r. SomeIff r (IsNumber c.args.digits.now × IsWithinLimit c.args.digits.now) (pos (value_of c.args.digits.now))) (sym c.ok.ensures.value)
    (parsed c.args.digits.now c.parse.result (first_digit c.args.digits.now some) c.parse.ensures.value.0)
