-- Only names and numbers keep their text.
use Rattle.std.proofs.Common.{◌≡◌, ◌||◌, ℕ, Bool, true, false, cond, List, [], ◌∷◌, ◌++◌, Option, Some, None, map, refl, subst}
use Rattle.std.specs.List.{AllByRecursion}
use Rattle.slang_tree.specs.declared.place.Place.{Place}
use Rattle.slang_lexer.specs.declared.token.Token.{Token}
use Rattle.slang_lexer.specs.declared.token.TokenKind.TheVariants as kind
use Rattle.slang_tokens.specs.declared.read.TokensEnd.{TokensEnd}
use Rattle.slang_tokens.specs.Tok.{Tok, same_kind}
use Rattle.slang_tokens.specs.Kinds.{is_line_end}
use Rattle.slang_tokens.specs.Newlines.{may_begin, solid, newline_place, newline_of, newline_at, standing}
use Rattle.slang_tokens.specs.Tokens.{placed, AreThoseBefore, whole, heavy, AreTokens}

-- the token has no text unless it is a name or a number
pub record IsBare (token : Tok) : Type 0 where
  pub bare : same_kind token.kind kind.Name ≡ false → same_kind token.kind kind.Number ≡ false → token.text ≡ []

abbrev AllBare : List Tok → Type 0
AllBare tokens = AllByRecursion IsBare tokens

AllBare-append : (xs ys : List Tok) → AllBare xs → AllBare ys → AllBare (xs ++ ys)
AllBare-append [] ys h k = k
AllBare-append (x ∷ xs) ys h k = (h.0, AllBare-append xs ys h.1 k)

AllBare-front : (xs ys : List Tok) → AllBare (xs ++ ys) → AllBare xs
AllBare-front [] ys h = tt
AllBare-front (x ∷ xs) ys h = (h.0, AllBare-front xs ys h.1)

AllBare-cond : (b : Bool) (xs ys : List Tok) → AllBare xs → AllBare ys → AllBare (cond b xs ys)
AllBare-cond true xs ys h k = h
AllBare-cond false xs ys h k = k

AllBare-newline : (place : Option Place) → AllBare (newline_of place)
AllBare-newline None = tt
AllBare-newline (Some place) = (record { bare = λ a b. refl }, tt)

AllBare-standing : (before rest : List Tok) → AllBare rest → AllBare (standing before rest)
AllBare-standing before [] h = tt
AllBare-standing before (token ∷ rest) h =
    AllBare-append _ (standing (token ∷ before) rest)
    (AllBare-cond (is_line_end token.kind) (newline_at (token ∷ before) rest) (token ∷ [])
    (AllBare-cond (may_begin (solid (token ∷ before)) rest) (newline_of (newline_place (token ∷ before))) [] (AllBare-newline (newline_place (token ∷ before))) tt)
    (h.0, tt))
    (AllBare-standing (token ∷ before) rest h.1)

kept : (a b : Bool) (bytes : List ℕ) → a ≡ false → b ≡ false → cond (a || b) bytes [] ≡ []
kept a b bytes h k = rw (h, k) refl

AllBare-placed : (text : List ℕ) (read : List Token) → AllBare (map (placed text) read)
AllBare-placed text [] = tt
AllBare-placed text (token ∷ tokens) = (record { bare = λ a b. kept (same_kind token.kind kind.Name) (same_kind token.kind kind.Number) _ a b }, AllBare-placed text tokens)

AllBare-before : (all : List Tok) (all_end : TokensEnd) (tokens : List Tok) (end : TokensEnd) → AreThoseBefore all all_end tokens end → AllBare all → AllBare tokens
AllBare-before all all_end tokens end (whole same ends light) h = rw same h
AllBare-before all all_end tokens end (heavy token more same light weighs ends) h = AllBare-front tokens (token ∷ more) (subst AllBare same h)

-- the tokens of a text are so
pub bare_tokens : (text : List ℕ) (tokens : List Tok) (end : TokensEnd) → AreTokens text tokens end → AllByRecursion IsBare tokens
bare_tokens text tokens end are =
    AllBare-before are.all are.all_end tokens end are.light
    (rw are.stand.stand (AllBare-standing [] (map (placed text) are.stand.read) (AllBare-placed text are.stand.read)))
