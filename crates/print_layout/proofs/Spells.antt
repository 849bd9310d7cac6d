-- Pieces whose tokens are these.
use Rattle.std.proofs.Common.{◌≡◌, List, [], ◌∷◌, ◌++◌, Option, Some, None, refl, sym, ap, ap₂, ◌∙◌, append_assoc}
use Rattle.slang_lexer.specs.declared.token.TokenKind.{TokenKind}
use Rattle.slang_tree.specs.declared.place.Place.{Place}
use Rattle.slang_tokens.specs.Tok.{Tok, sign}
use Rattle.slang_grammar.specs.Parts.{separated, optional}
use Rattle.print_layout.specs.Pieces.{Gap, none, Piece, piece, mark, tokens_of, listed_pieces}

pub record Spells (pieces : List Piece) (tokens : List Tok) : Type 0 where
  pub is : tokens_of pieces ≡ tokens

tokens-append : (xs ys : List Piece) → tokens_of (xs ++ ys) ≡ tokens_of xs ++ tokens_of ys
tokens-append [] ys = refl
tokens-append (x ∷ xs) ys = ap (λ ts. x.token ∷ ts) (tokens-append xs ys)

pub joined : {xs ys : List Piece} {a b : List Tok} → Spells xs a → Spells ys b → Spells (xs ++ ys) (a ++ b)
joined {xs} {ys} {a} {b} h k = record { is = tokens-append xs ys ∙ ap₂ (λ s t. s ++ t) h.is k.is }

pub over : Spells [] []
over = record { is = refl }

-- a token in front
pub begins : (gap : Gap) (token : Tok) {ys : List Piece} {b : List Tok} → Spells ys b → Spells (piece gap token ∷ ys) (token ∷ b)
begins gap token h = record { is = ap (λ ts. token ∷ ts) h.is }

pub signed : (gap : Gap) (k : TokenKind) (place : Place) {ys : List Piece} {b : List Tok} → Spells ys b → Spells (mark gap k place ∷ ys) (sign k place ∷ b)
signed gap k place h = record { is = ap (λ ts. sign k place ∷ ts) h.is }

-- a list, however each of its members is laid out
pub listed-spells : {A : Type 0} (separator : TokenKind) (pieces_of : Option A → A → List Piece) (tokens_of_one : A → List Tok) →
    ((before : Option A) (member : A) → Spells (pieces_of before member) (tokens_of_one member)) →
    (before : Option A) (front : List (A × Place)) (last : Option A) →
    Spells (listed_pieces separator pieces_of before front last) (separated separator tokens_of_one front ++ optional tokens_of_one last)
listed-spells separator pieces_of tokens_of_one each before [] None = over
listed-spells separator pieces_of tokens_of_one each before [] (Some last) = each before last
listed-spells separator pieces_of tokens_of_one each before (member ∷ more) last = record {
  is = (joined (each before member.0) (signed none separator member.1 (listed-spells separator pieces_of tokens_of_one each (Some member.0) more last))).is
      ∙ sym (append_assoc (tokens_of_one member.0) (sign separator member.1 ∷ separated separator tokens_of_one more) (optional tokens_of_one last));
}
