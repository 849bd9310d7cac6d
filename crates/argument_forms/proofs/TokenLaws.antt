-- Tokens that are told by their kinds.
use denote.Enum.Bare.{same_true}
use Rattle.std.proofs.Common.{◌≡◌, ◌==◌, ℕ, true, List, length, ap, ap₂, arith}
use Rattle.std.proofs.lemmas.List.{nil_from_length}
use Rattle.std.proofs.lemmas.Bool.{and_parts}
use Rattle.std.proofs.lemmas.Bool.Decides.{nat_tests}
use Rattle.slang_lexer.specs.contracts.token.TokenKind.{the_type}
use Rattle.slang_lexer.specs.declared.token.TokenKind.{TokenKind}
use Rattle.slang_lexer.specs.declared.token.TokenKind.TheVariants as kind
use Rattle.slang_tokens.specs.Tok.{Tok, sign, same_kind}
use Rattle.slang_grammar.specs.Parts.{is_numeral, is_plain, name_token, number_token}
use Rattle.argument_rules.specs.Arguments.{is_below_zero}
use Rattle.argument_forms.specs.Machine.{is_sign, is_name, is_digits, is_digits_below_zero}

no_text : (text : List ℕ) → (length text == 0) ≡ true → length text ≡ 0
no_text text h = grind (arith, nat_tests, h)

kind_is : (token : Tok) (k : TokenKind) → same_kind token.kind k ≡ true → token.kind ≡ k
kind_is token k h = same_true the_type tt token.kind k h

pub sign_is : (k : TokenKind) (token : Tok) → is_sign k token ≡ true → token ≡ sign k token.place
sign_is k token h =
    let parts = and_parts (same_kind token.kind k) (length token.text == 0) h in
    ap₂ (λ (x : TokenKind) (text : List ℕ). record { kind = x; text = text; place = token.place }) (kind_is token k parts.0)
    (nil_from_length token.text (no_text token.text parts.1))

pub name_is : (token : Tok) → is_name token ≡ true
    → (token ≡ name_token (record { text = token.text; place = token.place })) × (is_plain token.text ≡ true)
name_is token h =
    let parts = and_parts (same_kind token.kind kind.Name) (is_plain token.text) h in
    (ap (λ (x : TokenKind). record { kind = x; text = token.text; place = token.place }) (kind_is token kind.Name parts.0), parts.1)

pub digits_is : (token : Tok) → is_digits token ≡ true → (token ≡ number_token token.text token.place) × (is_numeral token.text ≡ true)
digits_is token h =
    let parts = and_parts (same_kind token.kind kind.Number) (is_numeral token.text) h in
    (ap (λ (x : TokenKind). record { kind = x; text = token.text; place = token.place }) (kind_is token kind.Number parts.0), parts.1)

pub below_is : (token : Tok) → is_digits_below_zero token ≡ true → (token ≡ number_token token.text token.place) × (is_below_zero token.text ≡ true)
below_is token h =
    let parts = and_parts (same_kind token.kind kind.Number) (is_below_zero token.text) h in
    (ap (λ (x : TokenKind). record { kind = x; text = token.text; place = token.place }) (kind_is token kind.Number parts.0), parts.1)
