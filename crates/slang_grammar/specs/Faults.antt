-- The first fault of a text: it is at the first token with which no accepted list of tokens goes on, and has the first code that
-- applies there.
use Rattle.std.specs.Prelude.{◌≡◌, ℕ, ◌-◌, ◌<◌, ◌≤◌, Bool, false, not, ◌&&◌, ◌||◌, if◌then◌else◌, List, [], ◌∷◌, ◌++◌, length, take, count_by, codes, IsTrue}
use Rattle.std.specs.List.{list_any}
use Rattle.std.specs.Str.{IsUtf8}
use Rattle.slang_lexer.specs.declared.token.TokenKind.{TokenKind}
use Rattle.slang_lexer.specs.declared.token.TokenKind.TheVariants as kind
use Rattle.slang_lexer.specs.Spelling.{words}
use Rattle.slang_lexer.specs.Statement.{is_left_out}
use Rattle.slang_tree.specs.declared.place.Place.{Place}
use Rattle.slang_tree.specs.declared.place.Fault.{Fault}
use Rattle.slang_tree.specs.DeclTree.{DeclTree}
use Rattle.slang_tokens.specs.declared.read.TokensEnd.{TokensEnd}
use Rattle.slang_tokens.specs.declared.read.TokensEnd.TheVariants as tokens_end
use Rattle.slang_tokens.specs.Tok.{Tok, same_kind, sign}
use Rattle.slang_tokens.specs.Places.{place_at}
use Rattle.slang_tokens.specs.Tokens.{AreTokens}
use Rattle.slang_grammar.specs.Parts.{number_token}
use Rattle.slang_grammar.specs.Texts.{InGrammar}

-- Where reading stops.

-- these tokens are a text
pub record IsText (tokens : List Tok) : Type 0 where
  pub file : List DeclTree
  pub in_grammar : InGrammar tokens file

-- some text goes on from these tokens
pub record IsViable (front : List Tok) : Type 0 where
  pub more : List Tok
  pub text : IsText (front ++ more)

abbrev pub IsStuck : List Tok → Type 0
IsStuck front = IsViable front → ⊥

-- one of these may come behind that front
abbrev pub Takes : List Tok → Tok → Type 0
Takes front token = IsViable (front ++ token ∷ [])

-- Codes.

-- a name, or a word of the language or one that it leaves out
abbrev pub is_word : TokenKind → Bool
is_word k = same_kind k kind.Name || list_any (λ row. same_kind row.1 k) words

-- The front ends with the `@` of a declaration. Only a word goes on from it.
abbrev pub ends_with_at : List Tok → Bool
ends_with_at [] = false
ends_with_at (token ∷ []) = same_kind token.kind kind.At
ends_with_at (token ∷ more ∷ rest) = ends_with_at (more ∷ rest)

abbrev pub last_place : List Tok → Place → Place
last_place [] place = place
last_place (token ∷ more) place = last_place more token.place

-- how many braces are open behind these tokens
abbrev pub open_braces : List Tok → ℕ
open_braces front = count_by (λ (token : Tok). same_kind token.kind kind.LeftBrace) front - count_by (λ
    (token : Tok). same_kind token.kind kind.RightBrace) front

-- a number where a smaller one may come: the label of a step is too large
pub record IsLargeLabel (front : List Tok) (token : Tok) : Type 0 where
  pub is_number : token.kind ≡ kind.Number
  pub smaller : Takes front (number_token (codes "0") token.place)

-- `Invariant` is due
abbrev pub IsInvariantDue : List Tok → Tok → Type 0
IsInvariantDue front token = Takes front (sign kind.Invariant token.place)

-- A form that the language leaves out: a word of its own, a class without `@datatype`, another word than `datatype` behind `@`,
-- an `if` where an operand may come, or a `return` in a block of a body.
pub data IsLeftOut (front : List Tok) (token : Tok) : Type 0 where
  word : IsTrue (is_left_out token.kind) → IsLeftOut front token
  class : token.kind ≡ kind.Class → IsLeftOut front token
  annotation : IsTrue (ends_with_at front) → IsLeftOut front token
  if_expression : token.kind ≡ kind.If → Takes front (sign kind.Bang token.place) → IsLeftOut front token
  early_return : token.kind ≡ kind.Return → 2 ≤ open_braces front → IsLeftOut front token

-- the code of a token with which no text goes on from that front
pub data HasCode (front : List Tok) (token : Tok) (code : ℕ) : Type 0 where
  large_label : code ≡ 3 → IsLargeLabel front token → HasCode front token code
  no_invariant : code ≡ 13 → (IsLargeLabel front token → ⊥) → IsInvariantDue front token → HasCode front token code
  left_out : code ≡ 14 → (IsLargeLabel front token → ⊥) → (IsInvariantDue front token → ⊥) → IsLeftOut front token → HasCode front token code
  unexpected : code ≡ 4 → (IsLargeLabel front token → ⊥) → (IsInvariantDue front token → ⊥) → (IsLeftOut front token → ⊥) → HasCode front token code

-- The fault where a text stops at this token. An `@` that no word follows is itself unexpected.
pub data IsToldAt (front : List Tok) (token : Tok) (fault : Fault) : Type 0 where
  at_token : IsTrue (not (ends_with_at front) || is_word token.kind) → fault.place ≡ token.place → HasCode front token fault.code → IsToldAt front token fault
  at_sign : IsTrue (ends_with_at front && not (is_word token.kind)) → fault ≡ record { code = 4; place = last_place front token.place }
      → IsToldAt front token fault

-- the fault where a text stops at what is no token
abbrev pub told_bad : List Tok → Fault → Fault
told_bad front bad = if ends_with_at front then record { code = 4; place = last_place front bad.place } else bad

-- these tokens, which end so, are no text, and this is their first fault
pub data IsFirstFault (tokens : List Tok) (end : TokensEnd) (fault : Fault) : Type 0 where
  within : (front : List Tok) (token : Tok) (rest : List Tok) → tokens ≡ front ++ token ∷ rest → IsViable front → IsStuck (front ++ token ∷ [])
      → IsToldAt front token fault → IsFirstFault tokens end fault
  at_end : (place : Place) → end ≡ tokens_end.End place → IsViable tokens → (IsText tokens → ⊥) → IsToldAt tokens (sign kind.End place) fault
      → IsFirstFault tokens end fault
  at_bad : (bad : Fault) → end ≡ tokens_end.Fault bad → IsViable tokens → fault ≡ told_bad tokens bad → IsFirstFault tokens end fault

-- the longest front of the bytes that is UTF-8 has this length, and is not all of them
pub record IsUtf8Front (bytes : List ℕ) (len : ℕ) : Type 0 where
  pub shorter : len < length bytes
  pub utf8 : IsUtf8 (take len bytes)
  pub longest : (longer : ℕ) → len < longer → longer ≤ length bytes → IsUtf8 (take longer bytes) → ⊥

-- the first fault of the bytes: they are not UTF-8, or their tokens are no text
pub data HasFault (bytes : List ℕ) (fault : Fault) : Type 0 where
  not_utf8 : (len : ℕ) → IsUtf8Front bytes len → fault ≡ record { code = 1; place = place_at bytes len } → HasFault bytes fault
  no_text : IsUtf8 bytes → (tokens : List Tok) (end : TokensEnd) → AreTokens bytes tokens end → IsFirstFault tokens end fault → HasFault bytes fault
