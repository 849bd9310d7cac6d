-- Words, braces and the last token of a front.
use Rattle.std.proofs.Common.{◌≡◌, ℕ, ◌+◌, ◌-◌, Bool, true, false, not, ◌||◌, cond, List, [], ◌∷◌, Some, None, length, suc, count_by, refl, sym, ap, ◌∙◌, arith}
use Rattle.std.specs.List.{slice_get, fold}
use Rattle.slang_lexer.specs.Spelling.{words}
use Rattle.slang_lexer.specs.declared.token.TokenKind.{TokenKind}
use Rattle.slang_lexer.specs.declared.token.TokenKind.TheVariants as kind
use Rattle.slang_tree.specs.declared.place.Place.{Place}
use Rattle.slang_tokens.specs.declared.lexeme.Lexeme.{Lexeme}
use Rattle.slang_tokens.specs.Tok.{Tok, same_kind, toks}
use Rattle.slang_grammar.specs.Faults.{is_word, ends_with_at, last_place}
use Rattle.fault_codes.specs.Codes.{is_mark, is_operator}

no_sign : (k : TokenKind) → not (is_mark k || is_operator k) ≡ is_word k
unfolding is_mark is_operator words
no_sign kind.End = refl
no_sign _ = refl

pub mark_is_no_word : (k : TokenKind) → true ≡ is_mark k → false ≡ is_word k
mark_is_no_word k h = ap (λ b. not (b || is_operator k)) h ∙ no_sign k

pub other_is_word : (k : TokenKind) (operator : Bool) → false ≡ is_mark k → operator ≡ is_operator k → not operator ≡ is_word k
other_is_word k operator h o = ap not o ∙ ap (λ b. not (b || is_operator k)) h ∙ no_sign k

counted : (k : TokenKind) (n : ℕ) (tokens : List Lexeme)
    → fold (λ m (token : Lexeme). m + cond (same_kind token.kind k) 1 0) n tokens ≡ fold (λ m (token : Tok). m + cond (same_kind token.kind k) 1 0) n (toks tokens)
counted k n [] = refl
counted k n (token ∷ tokens) = counted k (n + cond (same_kind token.kind k) 1 0) tokens

pub count_toks : (k : TokenKind) (tokens : List Lexeme)
    → count_by (λ (token : Lexeme). same_kind token.kind k) tokens ≡ count_by (λ (token : Tok). same_kind token.kind k) (toks tokens)
count_toks k tokens = counted k 0 tokens

-- the last token
pub record IsLast (tokens : List Lexeme) (last : Lexeme) : Type 0 where
  pub at : ends_with_at (toks tokens) ≡ same_kind last.kind kind.At
  pub place : (otherwise : Place) → last_place (toks tokens) otherwise ≡ last.place

none_some : {A : Type 0} (a : A) → None ≡ Some a → ⊥
none_some a h = cc (h)

some_same : {A : Type 0} (x y : A) → Some x ≡ Some y → x ≡ y
some_same x y h = cc (h)

pub last_is : (tokens : List Lexeme) (last : Lexeme) → slice_get tokens (length tokens - 1) ≡ Some last → IsLast tokens last
last_is [] last h = absurd (none_some last h)
last_is (token ∷ []) last h =
    let same = some_same token last h in
    record { at = ap (λ (t : Lexeme). same_kind t.kind kind.At) same; place = λ otherwise. ap (λ (t : Lexeme). t.place) same }
last_is (token ∷ next ∷ rest) last h =
    let n : ℕ = length (next ∷ rest) - 1 in
    let before : length (token ∷ next ∷ rest) - 1 ≡ suc n = omega arith in
    let more = last_is (next ∷ rest) last (sym (ap (slice_get (token ∷ next ∷ rest)) before) ∙ h) in
    record { at = more.at; place = λ otherwise. more.place token.place }

pub no_last : (tokens : List Lexeme) → slice_get tokens (length tokens - 1) ≡ None → ends_with_at (toks tokens) ≡ false
no_last [] h = refl
no_last (token ∷ []) h = absurd (none_some token (sym h))
no_last (token ∷ next ∷ rest) h =
    let n : ℕ = length (next ∷ rest) - 1 in
    let before : length (token ∷ next ∷ rest) - 1 ≡ suc n = omega arith in
    no_last (next ∷ rest) (sym (ap (slice_get (token ∷ next ∷ rest)) before) ∙ h)
