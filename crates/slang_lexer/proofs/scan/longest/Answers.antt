use Rattle.std.proofs.Common.{◌<◌, sym, ◌∙◌, ap, subst, arith, unwrap_or, take}
use Rattle.std.specs.Char.{is_ascii_digit}
use Rattle.std.specs.List.{prefix_len}
use Rattle.slang_lexer.specs.declared.token.TokenKind.TheVariants as kind
use Rattle.slang_lexer.specs.Scan.{first_at, IsLongestFront}
use Rattle.slang_lexer.specs.Spelling.{signs, words, kind_in}
use Rattle.slang_lexer.proofs.Fronts.{NoSignFrom, no_sign_none, no_sign_short, IsLongestFront-number, IsLongestFront-sign, IsLongestFront-name, NoLongerFront-none}
use Rattle.slang_lexer.proofs.scan.longest.Goals as goal
use Rattle.slang_lexer.proofs.scan.longest.Goals.{in_default-via-in-Some+else-name-len, in_default-via-in_default}

pub returns-then-digits-gt0 : goal.returns-then-digits-gt0
returns-then-digits-gt0 c =
    let digits = c.digits_len-digits.ensures ∙ ap (prefix_len is_ascii_digit) c.as_bytes-bytes.ensures.value in
    subst (IsLongestFront c.args.text.now kind.Number) (sym digits) (IsLongestFront-number c.args.text.now (subst (λ n. 0 < n) digits c.if-digits-gt0.true))

pub returns-in-Some : goal.returns-in-Some
returns-in-Some c =
    let bytes = c.as_bytes-bytes.ensures.value in
    let digits = c.digits_len-digits.ensures ∙ ap (prefix_len is_ascii_digit) bytes in
    IsLongestFront-sign c.args.text.now (λ some. omega (arith, digits)) c.name_len-name.result c.name_len-name.ensures c.in-Some.kind c.in-Some.len
    (sym (ap (first_at signs) bytes) ∙ sym c.in-Some.ensures) c.if-name-len.true

pub returns-in_default : goal.returns-in_default
returns-in_default c =
    let bytes = c.as_bytes-bytes.ensures.value in
    let digits = c.digits_len-digits.ensures ∙ ap (prefix_len is_ascii_digit) bytes in
    let sign = sym (ap (first_at signs) bytes) ∙ sym c.sign_at.ensures in
    let ends : NoSignFrom c.args.text.now c.name_len-name.result =
    elim c.in_default.branch [
      | in_default-via-in-Some+else-name-len w ↦ no_sign_short _ _ _ _ (sign ∙ w.in-Some.is) w.if-name-len.false
      | in_default-via-in_default w ↦ no_sign_none _ _ (sign ∙ w.in_default.is)
    ] in
    subst (λ k. IsLongestFront c.args.text.now k c.name_len-name.result) (sym (c.name_kind.ensures ∙ ap (λ z. unwrap_or (kind_in words (take c.name_len-name.result z)) kind.Name) bytes))
    (IsLongestFront-name c.args.text.now (λ some. omega (arith, digits)) c.name_len-name.result c.name_len-name.ensures ends c.if-name-gt0.true)

pub returns-in_default-2 : goal.returns-in_default-2
returns-in_default-2 c =
    let bytes = c.as_bytes-bytes.ensures.value in
    let digits = c.digits_len-digits.ensures ∙ ap (prefix_len is_ascii_digit) bytes in
    let sign = sym (ap (first_at signs) bytes) ∙ sym c.sign_at.ensures in
    let ends : NoSignFrom c.args.text.now c.name_len-name.result =
    elim c.in_default.branch [
      | in_default-via-in-Some+else-name-len w ↦ no_sign_short _ _ _ _ (sign ∙ w.in-Some.is) w.if-name-len.false
      | in_default-via-in_default w ↦ no_sign_none _ _ (sign ∙ w.in_default.is)
    ] in
    NoLongerFront-none c.args.text.now (λ some. omega (arith, digits)) c.name_len-name.result c.name_len-name.ensures ends (λ some. omega (arith, c.if-name-gt0.false))
