-- A number at the front of tokens.
use Rattle.std.specs.Prelude.{◌≡◌, ℕ, ℤ, pos, neg_ℤ, List, ◌∷◌, IsTrue}
use Rattle.slang_lexer.specs.declared.token.TokenKind.TheVariants as kind
use Rattle.slang_lexer.specs.Next.{value_of as number_value}
use Rattle.slang_tree.specs.declared.place.Place.{Place}
use Rattle.slang_tokens.specs.Tok.{Tok, sign, toks}
use Rattle.slang_grammar.specs.Parts.{is_numeral, number_token}
use Rattle.argument_rules.specs.Arguments.{is_below_zero}
use Rattle.argument_fronts.specs.declared.numbers.Number.{Number}

-- a number, and what stands behind it
pub record NumberFront : Type 0 where
  pub number : ℤ
  pub rest : List Tok

abbrev pub number_front : Number → NumberFront
number_front read = record { number = read.number; rest = toks read.rest.now }

-- the digits of a number below zero, behind its minus
pub record IsBelowFront (before : List Tok) (front : NumberFront) : Type 0 where
  pub text : List ℕ
  pub place : Place
  pub well_formed : IsTrue (is_below_zero text)
  pub spelled : before ≡ number_token text place ∷ front.rest
  pub is : front.number ≡ neg_ℤ (pos (number_value text))

-- digits, or a minus and digits
pub data IsNumberFront (before : List Tok) (front : NumberFront) : Type 0 where
  digits : (text : List ℕ) (place : Place) → IsTrue (is_numeral text) → before ≡ number_token text place ∷ front.rest
      → front.number ≡ pos (number_value text) → IsNumberFront before front
  below_zero : (minus : Place) (after : List Tok) → before ≡ sign kind.Minus minus ∷ after → IsBelowFront after front → IsNumberFront before front
