-- The names among the tokens of a text are read as names.
use Rattle.std.proofs.Common.{◌≡◌, ◌||◌, ℕ, Bool, true, false, cond, List, [], ◌∷◌, ◌++◌, Option, Some, None, map, slice_range, sym, ◌∙◌, ap, subst}
use Rattle.std.proofs.lemmas.Bool.{cond-true}
use Rattle.slang_tree.specs.declared.place.Place.{Place}
use Rattle.slang_lexer.specs.declared.token.Token.{Token}
use Rattle.slang_lexer.specs.declared.token.TokenKind.TheVariants as kind
use Rattle.slang_lexer.specs.Spelling.{kind_of}
use Rattle.slang_lexer.specs.Next.{IsNext}
use Rattle.slang_lexer.proofs.Tokens.{next_is_spelled}
use Rattle.slang_tokens.specs.declared.read.TokensEnd.{TokensEnd}
use Rattle.slang_tokens.specs.Tok.{Tok, same_kind}
use Rattle.slang_tokens.specs.Kinds.{is_line_end}
use Rattle.slang_tokens.specs.Newlines.{may_begin, solid, newline_place, newline_of, newline_at, standing}
use Rattle.slang_tokens.specs.Tokens.{Follow, placed, AreThoseBefore, whole, heavy, AreTokens}
use Rattle.sound_trees.specs.Laws.{IsRead, AreRead}

AreRead-append : (xs ys : List Tok) → AreRead xs → AreRead ys → AreRead (xs ++ ys)
AreRead-append [] ys h k = k
AreRead-append (x ∷ xs) ys h k = (h.0, AreRead-append xs ys h.1 k)

AreRead-front : (xs ys : List Tok) → AreRead (xs ++ ys) → AreRead xs
AreRead-front [] ys h = tt
AreRead-front (x ∷ xs) ys h = (h.0, AreRead-front xs ys h.1)

AreRead-cond : (b : Bool) (xs ys : List Tok) → AreRead xs → AreRead ys → AreRead (cond b xs ys)
AreRead-cond true xs ys h k = h
AreRead-cond false xs ys h k = k

no_name : kind.Newline ≡ kind.Name → ⊥
no_name e = cc

AreRead-newline : (place : Option Place) → AreRead (newline_of place)
AreRead-newline None = tt
AreRead-newline (Some place) = (λ k. absurd (no_name k), tt)

AreRead-standing : (before rest : List Tok) → AreRead rest → AreRead (standing before rest)
AreRead-standing before [] h = tt
AreRead-standing before (token ∷ rest) h =
    AreRead-append _ (standing (token ∷ before) rest)
    (AreRead-cond (is_line_end token.kind) (newline_at (token ∷ before) rest) (token ∷ [])
    (AreRead-cond (may_begin (solid (token ∷ before)) rest) (newline_of (newline_place (token ∷ before))) []
    (AreRead-newline (newline_place (token ∷ before))) tt)
    (h.0, tt))
    (AreRead-standing (token ∷ before) rest h.1)

read_token : (text : List ℕ) (at : ℕ) (token : Token) → IsNext text at token → IsRead (placed text token)
read_token text at token x = λ k.
    let bytes = slice_range text token.start token.end in
    let kept : (placed text token).text ≡ slice_range text token.start token.end =
    cond-true (same_kind token.kind kind.Name || same_kind token.kind kind.Number) (slice_range text token.start token.end) []
    (ap (λ j. same_kind j kind.Name || same_kind j kind.Number) k) in
    ap kind_of kept ∙ (next_is_spelled text at token x).spells (λ end. name_not_end (sym k ∙ end)) ∙ ap Some k
  where
    name_not_end : kind.Name ≡ kind.End → ⊥
    name_not_end e = cc

AreRead-placed : (text : List ℕ) (at : ℕ) (read : List Token) (end : TokensEnd) → Follow text at read end → AreRead (map (placed text) read)
AreRead-placed text at [] end h = tt
AreRead-placed text at (token ∷ tokens) end h = (read_token text at token h.0, AreRead-placed text token.end tokens end h.2)

AreRead-before : (all : List Tok) (all_end : TokensEnd) (tokens : List Tok) (end : TokensEnd) → AreThoseBefore all all_end tokens end → AreRead all
    → AreRead tokens
AreRead-before all all_end tokens end (whole same ends light) h = subst AreRead (sym same) h
AreRead-before all all_end tokens end (heavy token more same light weighs ends) h = AreRead-front tokens (token ∷ more) (subst AreRead same h)

pub names_are_read : (text : List ℕ) (tokens : List Tok) (end : TokensEnd) → AreTokens text tokens end → AreRead tokens
names_are_read text tokens end are =
    AreRead-before are.all are.all_end tokens end are.light
    (subst AreRead (sym are.stand.stand) (AreRead-standing [] (map (placed text) are.stand.read)
    (AreRead-placed text 0 are.stand.read are.all_end are.stand.follow)))
