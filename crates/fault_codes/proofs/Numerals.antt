-- The numbers among the tokens of a text have at most 127 bits.
use Rattle.std.proofs.Common.{◌≡◌, ◌||◌, ◌&&◌, ℕ, ◌^◌, Bool, true, false, cond, List, [], ◌∷◌, ◌++◌, Option, Some, None, map, refl, sym, ap, ◌∙◌, subst}
use Rattle.std.specs.List.{AllByRecursion}
use Rattle.std.proofs.lemmas.Bool.{lt-ltb}
use denote.Enum.Bare.{same_true}
use Rattle.slang_lexer.specs.contracts.token.TokenKind.{the_type}
use Rattle.slang_lexer.specs.declared.token.Token.{Token}
use Rattle.slang_lexer.specs.declared.token.TokenKind.TheVariants as kind
use Rattle.slang_lexer.specs.Next.{IsNext, bytes_of, value_of}
use Rattle.slang_lexer.specs.Spelling.{is_number}
use Rattle.slang_lexer.proofs.Tokens.{next_is_spelled}
use Rattle.slang_tree.specs.declared.place.Place.{Place}
use Rattle.slang_tokens.specs.declared.read.TokensEnd.{TokensEnd}
use Rattle.slang_tokens.specs.Tok.{Tok, same_kind}
use Rattle.slang_tokens.specs.Kinds.{is_line_end}
use Rattle.slang_tokens.specs.Newlines.{may_begin, solid, newline_place, newline_of, newline_at, standing}
use Rattle.slang_tokens.specs.Tokens.{placed, Follow, AreThoseBefore, whole, heavy, AreTokens}
use Rattle.slang_grammar.specs.Parts.{is_numeral}
use Rattle.slang_machine.specs.Expressions.{is}

-- the token has at most 127 bits where it is a number
pub record IsNumeral (token : Tok) : Type 0 where
  pub numeral : is kind.Number token ≡ true → is_numeral token.text ≡ true

abbrev AllNumerals : List Tok → Type 0
AllNumerals tokens = AllByRecursion IsNumeral tokens

true_false : true ≡ false → ⊥
true_false h = cc (h)

append : (xs ys : List Tok) → AllNumerals xs → AllNumerals ys → AllNumerals (xs ++ ys)
append [] ys h k = k
append (x ∷ xs) ys h k = (h.0, append xs ys h.1 k)

front : (xs ys : List Tok) → AllNumerals (xs ++ ys) → AllNumerals xs
front [] ys h = tt
front (x ∷ xs) ys h = (h.0, front xs ys h.1)

either : (b : Bool) (xs ys : List Tok) → AllNumerals xs → AllNumerals ys → AllNumerals (cond b xs ys)
either true xs ys h k = h
either false xs ys h k = k

newline : (place : Option Place) → AllNumerals (newline_of place)
newline None = tt
newline (Some place) = (record { numeral = λ h. absurd (true_false (sym h)) }, tt)

stand : (before rest : List Tok) → AllNumerals rest → AllNumerals (standing before rest)
stand before [] h = tt
stand before (token ∷ rest) h =
    append _ (standing (token ∷ before) rest)
    (either (is_line_end token.kind) (newline_at (token ∷ before) rest) (token ∷ [])
    (either (may_begin (solid (token ∷ before)) rest) (newline_of (newline_place (token ∷ before))) [] (newline (newline_place (token ∷ before))) tt)
    (h.0, tt))
    (stand (token ∷ before) rest h.1)

and_both : (a b : Bool) → a ≡ true → b ≡ true → (a && b) ≡ true
and_both a b h k = ap (λ x. x && b) h ∙ k

kept : (a b : Bool) (bytes : List ℕ) → b ≡ true → cond (a || b) bytes [] ≡ bytes
kept true b bytes h = refl
kept false b bytes h = ap (λ x. cond x bytes []) h

one : (text : List ℕ) (at : ℕ) (token : Token) → IsNext text at token → IsNumeral (placed text token)
one text at token next = record {
  numeral = λ h.
      let bytes = bytes_of text token in
      let same : token.kind ≡ kind.Number = same_true the_type tt token.kind kind.Number h in
      let spelled = next_is_spelled text at token next in
      ap is_numeral (kept (same_kind token.kind kind.Name) (same_kind token.kind kind.Number) bytes h)
      ∙ and_both (is_number bytes) _ (spelled.number same) (lt-ltb (value_of bytes) (2 ^ 127) (next.small same));
}

read : (text : List ℕ) (at : ℕ) (tokens : List Token) (end : TokensEnd) → Follow text at tokens end → AllNumerals (map (placed text) tokens)
read text at [] end f = tt
read text at (token ∷ tokens) end f = (one text at token f.0, read text token.end tokens end f.2)

before_end : (all : List Tok) (all_end : TokensEnd) (tokens : List Tok) (end : TokensEnd) → AreThoseBefore all all_end tokens end → AllNumerals all → AllNumerals tokens
before_end all all_end tokens end (whole same ends light) h = rw same h
before_end all all_end tokens end (heavy token more same light weighs ends) h = front tokens (token ∷ more) (subst AllNumerals same h)

pub numeral_tokens : (text : List ℕ) (tokens : List Tok) (end : TokensEnd) → AreTokens text tokens end → AllByRecursion IsNumeral tokens
numeral_tokens text tokens end are =
    before_end are.all are.all_end tokens end are.light
    (rw are.stand.stand (stand [] (map (placed text) are.stand.read) (read text 0 are.stand.read are.all_end are.stand.follow)))
