-- Tokens as the machine takes them, and the cases of a step.
use Rattle.slang_grammar.specs.Parts.{name_token, number_token}
use Rattle.slang_grammar.specs.Operators.{operators, infix_in, infix_of}
use Rattle.slang_machine.specs.Open.{put}
use Rattle.slang_machine.specs.Expressions.{is, name_of, on}
use Rattle.slang_machine.proofs.Operators.{in_table, other}
use Rattle.slang_grammar.specs.declared.operator.Infix.{Infix}
use Rattle.slang_lexer.specs.declared.token.TokenKind.{TokenKind}
use Rattle.slang_tokens.specs.Tok.{Tok, sign, same_kind}
use Rattle.slang_tokens.proofs.Bare.{IsBare}
use Rattle.std.proofs.Common.{◌≡◌, ℕ, Bool, true, false, ◌&&◌, List, [], ◌∷◌, Option, Some, refl, sym, ap, ◌∙◌, subst, cond}
use Rattle.std.specs.Option.{IfSome}
use Rattle.slang_lexer.specs.declared.token.TokenKind.TheVariants as kind
use denote.Enum.Bare.{same_true}
use Rattle.slang_lexer.specs.contracts.token.TokenKind.{the_type}

-- Tokens.

pub is_sign_of : (k : TokenKind) (token : Tok) → same_kind k kind.Name ≡ false → same_kind k kind.Number ≡ false → IsBare token → token.kind ≡ k
    → token ≡ sign k token.place
is_sign_of k token n m bare same =
    let none : token.text ≡ [] = bare.bare (ap (λ x. same_kind x kind.Name) same ∙ n) (ap (λ x. same_kind x kind.Number) same ∙ m) in
    let put : TokenKind → List ℕ → Tok = λ x text. record { kind = x; text = text; place = token.place } in
    ap (λ x. put x token.text) same ∙ ap (put k) none

pub is_sign : (k : TokenKind) (token : Tok) → same_kind k kind.Name ≡ false → same_kind k kind.Number ≡ false → IsBare token → is k token ≡ true
    → token ≡ sign k token.place
is_sign k token n m bare h = is_sign_of k token n m bare (same_true the_type tt token.kind k h)

pub is_of_name : (token : Tok) → is kind.Name token ≡ true → token ≡ name_token (name_of token)
is_of_name token h =
    let put : TokenKind → Tok = λ x. record { kind = x; text = token.text; place = token.place } in
    ap put (same_true the_type tt token.kind kind.Name h)

pub both_true : (a b : Bool) → (a && b) ≡ true → (a ≡ true) × (b ≡ true)
both_true true true h = (refl, refl)
both_true true false h = absurd (cc)
both_true false b h = absurd (cc)

pub is_of_number : (token : Tok) → is kind.Number token ≡ true → token ≡ number_token token.text token.place
is_of_number token h =
    let put : TokenKind → Tok = λ x. record { kind = x; text = token.text; place = token.place } in
    ap put (same_true the_type tt token.kind kind.Number h)

-- The operator of a sign.

some_same : {x y : Infix} → Some x ≡ Some y → x ≡ y
some_same s = cc

of_sign : (rows : List Infix) (k : TokenKind) (found : Infix) → infix_in rows k ≡ Some found → found.sign ≡ k
of_sign [] k found h = absurd (cc)
of_sign (row ∷ rows) k found h = by_test (same_kind row.sign k) refl h (of_sign rows k found) where
  by_test : (b : Bool) → same_kind row.sign k ≡ b → cond b (Some row) (infix_in rows k) ≡ Some found → (infix_in rows k ≡ Some found → found.sign ≡ k)
      → found.sign ≡ k
  by_test true e f more = subst (λ o. o.sign ≡ k) (some_same f) (same_true the_type tt row.sign k e)
  by_test false e f more = more f

pub record IsOperator (token : Tok) (row : Infix) : Type 0 where
  pub same : token ≡ sign row.sign token.place
  pub is_row : infix_of row.sign ≡ Some row

pub is_operator : (token : Tok) (row : Infix) → IsBare token → infix_of token.kind ≡ Some row → IsOperator token row
is_operator token row bare h =
    let same = of_sign operators token.kind row h in
    let is_row : infix_of row.sign ≡ Some row = ap infix_of same ∙ h in
    let table = in_table row is_row in
    record { same = is_sign_of row.sign token table.no_name table.no_number bare (sym same); is_row = is_row }

-- Cases of what a token leads to.

pub on_case : {A : Type 0} (b : Bool) (x : A) (P : A → Type 0) → (b ≡ true → P x) → IfSome (on b x) P
on_case true x P f = f refl
on_case false x P f = tt

pub or_case : {A : Type 0} (b : Bool) (o other : Option A) (P : A → Type 0) → (b ≡ true → IfSome o P) → (b ≡ false → IfSome other P)
    → IfSome (cond b o other) P
or_case true o other P f g = f refl
or_case false o other P f g = g refl
