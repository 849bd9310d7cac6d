-- No constant holds a `/`, so the words of an argument hold none.
use Rattle.std.proofs.Common.{◌≡◌, ◌≢◌, List, [], ◌∷◌, ◌++◌, Option, Some, None, subst}
use Rattle.slang_lexer.specs.declared.token.TokenKind.TheVariants as kind
use Rattle.slang_tokens.specs.Tok.{Tok, sign}
use Rattle.slang_grammar.specs.Parts.{TypeText, ElementText, type_tokens, element_tokens, optional}
use Rattle.slang_grammar.specs.Parts as written
use Rattle.slang_grammar.specs.Declarations.{ConstText, const_number, const_minus, const_truth, const_falsity, const_sequence, const_record}
use Rattle.slang_grammar.specs.Declarations.{ConstsText, no_consts, last_const, const_then, const_tokens, consts_tokens}
use Rattle.argument_rules.specs.Words.{Word, word_tokens}
use Rattle.argument_words.specs.Words.{HaveNoSlash}

Slashless : List Tok → Type 0
Slashless [] = Unit {0}
Slashless (token ∷ tokens) = (token.kind ≢ kind.Slash) × Slashless tokens

both_slashless : (a b : List Tok) → Slashless a → Slashless b → Slashless (a ++ b)
unfolding Slashless
both_slashless [] b h k = k
both_slashless (token ∷ a) b h k = (h.0, both_slashless a b h.1 k)

type_slashless : (t : TypeText) → Slashless (type_tokens t)
unfolding Slashless
type_slashless (written.z_type place) = (λ e. cc, tt)
type_slashless (written.b_type place) = (λ e. cc, tt)
type_slashless (written.unit_type place) = (λ e. cc, tt)
type_slashless (written.sequence_type word left element right) =
    (λ e. cc, (λ e. cc, both_slashless (type_tokens element) (sign kind.RightBracket right ∷ []) (type_slashless element) (λ e. cc, tt)))
type_slashless (written.record_type name) = (λ e. cc, tt)

element_slashless : (t : Option ElementText) → Slashless (optional element_tokens t)
unfolding Slashless
element_slashless None = tt
element_slashless (Some t) = (λ e. cc, both_slashless (type_tokens t.ty) (sign kind.RightBracket t.right ∷ []) (type_slashless t.ty) (λ e. cc, tt))

mutual
  unfolding Slashless

  const_slashless : (c : ConstText) → Slashless (const_tokens c)
  const_slashless (const_number digits place) = (λ e. cc, tt)
  const_slashless (const_minus minus digits place) = (λ e. cc, (λ e. cc, tt))
  const_slashless (const_truth place) = (λ e. cc, tt)
  const_slashless (const_falsity place) = (λ e. cc, tt)
  const_slashless (const_sequence word ty left elements right) = (
    λ e. cc,
    both_slashless (optional element_tokens ty ++ (sign kind.LeftParen left ∷ consts_tokens elements)) (sign kind.RightParen right ∷ [])
        (both_slashless (optional element_tokens ty) (sign kind.LeftParen left ∷ consts_tokens elements) (element_slashless ty)
        (λ e. cc, consts_slashless elements))
        (λ e. cc, tt),
  )
  const_slashless (const_record n left fields right) =
      (λ e. cc, (λ e. cc, both_slashless (consts_tokens fields) (sign kind.RightParen right ∷ []) (consts_slashless fields) (λ e. cc, tt)))

  consts_slashless : (cs : ConstsText) → Slashless (consts_tokens cs)
  consts_slashless no_consts = tt
  consts_slashless (last_const c) = const_slashless c
  consts_slashless (const_then c comma more) =
      both_slashless (const_tokens c) (sign kind.Comma comma ∷ consts_tokens more) (const_slashless c) (λ e. cc, consts_slashless more)

words_slashless : (words : List Word) → Slashless (word_tokens words) → HaveNoSlash words
unfolding Slashless
words_slashless [] h = tt
words_slashless (word ∷ words) h = (h.0, words_slashless words h.1)

pub no_slash_in : (c : ConstText) (words : List Word) → const_tokens c ≡ word_tokens words → HaveNoSlash words
no_slash_in c words is = words_slashless words (subst Slashless is (const_slashless c))
