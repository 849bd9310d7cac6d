-- What may stand behind a token with which an expression or a part ends, and where an expression may begin.
use Rattle.std.proofs.Common.{◌≡◌, ℕ, Bool, true, false, not, ◌&&◌, List, [], ◌∷◌, ◌++◌, refl, ap}
use Rattle.slang_lexer.specs.declared.token.TokenKind.{TokenKind}
use Rattle.slang_lexer.specs.declared.token.TokenKind.TheVariants as kind
use Rattle.slang_lexer.specs.Spelling.{words}
use Rattle.slang_lexer.specs.Statement.{ends_statement, begins_statement}
use Rattle.slang_tree.specs.declared.place.Place.{Place}
use Rattle.slang_tokens.specs.Tok.{same_kind}
use Rattle.print_layout.specs.Pieces.{Gap, none, blank, line, Piece, mark}
use Rattle.laid_tokens.specs.Kinds.{has, starter_kinds, may_break, fits}
use Rattle.laid_tokens.specs.Laid.{Laid, done, plain, opening, closing, newline, annotation}
use Rattle.laid_tokens.specs.Laid as laid
use Rattle.laid_tokens.proofs.Tables.{of_has}

pub laid_append : {a b c : List Bool} {k j i : TokenKind} {xs ys : List Piece} → Laid a k xs b j → Laid b j ys c i → Laid a k (xs ++ ys) c i
laid_append done h = h
laid_append (plain k is f more) h = plain k is f (laid_append more h)
laid_append (opening k is f more) h = opening k is f (laid_append more h)
laid_append (closing k is f more) h = closing k is f (laid_append more h)
laid_append (newline inner e more) h = newline inner e (laid_append more h)
laid_append (annotation f more) h = annotation f (laid_append more h)

-- ---- ends

-- with which tokens a type, an expression, a statement or a declaration ends
abbrev pub end_kinds : List TokenKind
end_kinds =
    kind.Name ∷ kind.Number ∷ kind.True ∷ kind.False ∷ kind.Res ∷ kind.TypeIsz ∷ kind.TypeZ ∷ kind.TypeB ∷ kind.TypeUnit ∷ kind.RightParen ∷
    kind.RightBracket ∷ kind.RightBrace ∷ []

-- with which a step ends
abbrev pub step_ends : List TokenKind
step_ends = kind.Name ∷ kind.RightParen ∷ kind.SubstLess ∷ kind.SubstGreater ∷ []

-- pieces that end with such a token
pub record Ended (around : List Bool) (last : TokenKind) (pieces : List Piece) : Type 0 where
  pub end : TokenKind
  pub ends : has end_kinds end ≡ true
  pub laid : Laid around last pieces around end

abbrev stops_at : TokenKind → Type 0
stops_at q = (group : Bool) (k : TokenKind) → has end_kinds k ≡ true → fits group k none q ≡ true

-- no brace ends an expression, but nothing is lost by its being among them
pub fits_paren : stops_at kind.RightParen
unfolding words
fits_paren group k h = of_has (λ j. fits group j none kind.RightParen) end_kinds k refl h

pub fits_comma : stops_at kind.Comma
unfolding words
fits_comma group k h = of_has (λ j. fits group j none kind.Comma) end_kinds k refl h

pub fits_dot : stops_at kind.Dot
unfolding words
fits_dot group k h = of_has (λ j. fits group j none kind.Dot) end_kinds k refl h

pub fits_open : stops_at kind.LeftParen
unfolding words
fits_open group k h = of_has (λ j. fits group j none kind.LeftParen) end_kinds k refl h

pub fits_bracket : stops_at kind.RightBracket
unfolding words
fits_bracket group k h = of_has (λ j. fits group j none kind.RightBracket) end_kinds k refl h

pub fits_blank : (group : Bool) (k q : TokenKind) → has end_kinds k ≡ true → fits group k blank q ≡ true
fits_blank group k q h = of_has (λ j. fits group j blank q) end_kinds k refl h

pub fits_line : (k q : TokenKind) (depth : ℕ) → has end_kinds k ≡ true → fits true k (line depth) q ≡ true
unfolding words
fits_line k q depth h = of_has (λ j. fits true j (line depth) q) end_kinds k refl h

pub fits_end : (k : TokenKind) (depth : ℕ) → has end_kinds k ≡ true → fits false k (line depth) kind.RightBrace ≡ true
unfolding words ends_statement begins_statement
fits_end k depth h = of_has (λ j. fits false j (line depth) kind.RightBrace) end_kinds k refl h

pub ends_line : (k : TokenKind) → has end_kinds k ≡ true → (may_break k && ends_statement k) ≡ true
unfolding words ends_statement
ends_line k h = of_has (λ j. may_break j && ends_statement j) end_kinds k refl h

-- steps

pub step_comma : (k : TokenKind) → has step_ends k ≡ true → fits true k none kind.Comma ≡ true
unfolding words
step_comma k h = of_has (λ j. fits true j none kind.Comma) step_ends k refl h

pub step_paren : (k : TokenKind) (depth : ℕ) → has step_ends k ≡ true → fits true k (line depth) kind.RightParen ≡ true
unfolding words
step_paren k depth h = of_has (λ j. fits true j (line depth) kind.RightParen) step_ends k refl h

-- ---- where an expression may begin

pub record Enters (group : Bool) (last : TokenKind) (gap : Gap) : Type 0 where
  pub starts : (k : TokenKind) → has starter_kinds k ≡ true → fits group last gap k ≡ true

pub enters_paren : (group : Bool) → Enters group kind.LeftParen none
enters_paren group = record { starts = λ k h. refl }

pub enters_blank : (group : Bool) (last : TokenKind) → not (same_kind last kind.Newline) ≡ true → Enters group last blank
enters_blank group last e = record { starts = λ k h. e }

pub enters_bang : (group : Bool) → Enters group kind.Bang none
unfolding words
enters_bang group = record { starts = λ k h. ap (λ b. b && true) h }

pub enters_minus : (group : Bool) → Enters group kind.Minus none
unfolding words
enters_minus group = record { starts = λ k h. ap (λ b. b && true) h }

pub enters_line_paren : (depth : ℕ) → Enters true kind.LeftParen (line depth)
enters_line_paren depth = record { starts = λ k h. refl }

pub enters_line_comma : (depth : ℕ) → Enters true kind.Comma (line depth)
enters_line_comma depth = record { starts = λ k h. refl }

-- ---- closing brackets

pub close_paren : {around : List Bool} {last : TokenKind} {pieces : List Piece} (place : Place) → Ended (true ∷ around) last pieces
    → Laid (true ∷ around) last (pieces ++ mark none kind.RightParen place ∷ []) around kind.RightParen
close_paren place e = laid_append e.laid (closing refl (laid.sign refl refl) (fits_paren true e.end e.ends) done)
