-- What stands at the front of tokens.
use denote.Enum.Bare.{same_true}
use Rattle.std.proofs.Common.{◌≡◌, ℕ, Bool, true, false, List, [], ◌∷◌, ◌++◌, append_assoc, Option, Some, None, refl, sym, ap, ap₂, ◌∙◌, subst}
use Rattle.slang_values.specs.Value.{ValueType, Records, unit_type, number_type, truth_type, sequence_type, record_type}
use Rattle.slang_lexer.specs.declared.token.TokenKind.{TokenKind}
use Rattle.slang_lexer.specs.declared.token.TokenKind.TheVariants as kind
use Rattle.slang_tree.specs.declared.place.Place.{Place}
use Rattle.slang_tokens.specs.Tok.{Tok, sign}
use Rattle.slang_grammar.specs.Parts.{TypeText, type_tokens, IsType}
use Rattle.slang_grammar.specs.Parts as written
use Rattle.argument_rules.specs.Values.{is_written, is_named}
use Rattle.argument_fronts.specs.Cursor.{StandBehindSign, Front, IsFrontOf}
use Rattle.argument_fronts.specs.Types.{StandBehindType}

pub tail_of : List Tok → List Tok
tail_of [] = []
tail_of (token ∷ tokens) = tokens

head_of : Tok → List Tok → Tok
head_of past [] = past
head_of past (token ∷ tokens) = token

pub heads_same : (a b : Tok) (x y : List Tok) → a ∷ x ≡ b ∷ y → a ≡ b
unfolding head_of
heads_same a b x y h = ap (head_of a) h

pub tails_same : (a b : Tok) (x y : List Tok) → a ∷ x ≡ b ∷ y → x ≡ y
unfolding tail_of
tails_same a b x y h = ap tail_of h

-- a sign of that kind in front
pub sign_there : (k : TokenKind) (token : Tok) (before rest : List Tok) → before ≡ token ∷ rest → token.kind ≡ k → token.text ≡ []
    → StandBehindSign k before rest × ((a : List Tok) → StandBehindSign k before a → a ≡ rest)
sign_there k token before rest is same_kind empty = (
  (token.place, is ∙ ap₂ (λ (kind : TokenKind) (text : List ℕ). record { kind = kind; text = text; place = token.place } ∷ rest) same_kind empty),
  λ a h. tails_same (sign k h.0) token a rest (sym h.1 ∙ is),
)

pub no_sign_there : (k : TokenKind) (token : Tok) (before rest : List Tok) → before ≡ token ∷ rest → (token.kind ≡ k → token.text ≡ [] → ⊥)
    → (a : List Tok) → StandBehindSign k before a → ⊥
no_sign_there k token before rest is differs a h =
    let same = heads_same token (sign k h.0) rest a (sym is ∙ h.1) in
    differs (ap (λ (t : Tok). t.kind) same) (ap (λ (t : Tok). t.text) same)

pub no_sign_at_end : (k : TokenKind) (before : List Tok) → before ≡ [] → (a : List Tok) → StandBehindSign k before a → ⊥
no_sign_at_end k before is a h = no_token (sign k h.0) a (sym is ∙ h.1)
  where
    no_token : (token : Tok) (x : List Tok) → [] ≡ token ∷ x → ⊥
    no_token token x e = cc

-- a token of that kind in front
pub text_there : (k : TokenKind) (token : Tok) (before rest : List Tok) → before ≡ token ∷ rest → token.kind ≡ k
    → IsFrontOf k before (record { text = token.text; rest = rest }) × ((a : Front) → IsFrontOf k before a → a ≡ record { text = token.text; rest = rest })
text_there k token before rest is same_kind = (
  (token.place, is ∙ ap (λ (kind : TokenKind). record { kind = kind; text = token.text; place = token.place } ∷ rest) same_kind),
  λ a h. let e = sym h.1 ∙ is in ap₂ (λ (text : List ℕ) (more : List Tok). record { text = text; rest = more })
      (ap (λ (t : Tok). t.text) (heads_same (record { kind = k; text = a.text; place = h.0 }) token a.rest rest e))
      (tails_same (record { kind = k; text = a.text; place = h.0 }) token a.rest rest e),
)

pub no_text_there : (k : TokenKind) (token : Tok) (before rest : List Tok) → before ≡ token ∷ rest → (token.kind ≡ k → ⊥) → (a : Front)
    → IsFrontOf k before a → ⊥
no_text_there k token before rest is differs a h =
    differs (ap (λ (t : Tok). t.kind) (heads_same token (record { kind = k; text = a.text; place = h.0 }) rest a.rest (sym is ∙ h.1)))

pub no_text_at_end : (k : TokenKind) (before : List Tok) → before ≡ [] → (a : Front) → IsFrontOf k before a → ⊥
no_text_at_end k before is a h = no_token (record { kind = k; text = a.text; place = h.0 }) a.rest (sym is ∙ h.1)
  where
    no_token : (token : Tok) (x : List Tok) → [] ≡ token ∷ x → ⊥
    no_token token x e = cc

-- ---- types

module _ (names : List (List ℕ)) (records : Records) (before : List Tok) where
  pub unit_to : (a : List Tok) → StandBehindSign kind.TypeUnit before a → StandBehindType names records unit_type before a
  unit_to a h = (written.unit_type h.0, refl, tt, h.1)

  pub unit_back : (a : List Tok) → StandBehindType names records unit_type before a → StandBehindSign kind.TypeUnit before a
  unit_back a h = at h.0 h.1 h.3
    where
      at : (ty : TypeText) → is_written names records ty unit_type ≡ true → before ≡ type_tokens ty ++ a → StandBehindSign kind.TypeUnit before a
      at (written.z_type place) is spelled = absurd (cc)
      at (written.b_type place) is spelled = absurd (cc)
      at (written.unit_type place) is spelled = (place, spelled)
      at (written.sequence_type word left element right) is spelled = absurd (cc)
      at (written.record_type name) is spelled = absurd (cc)

  pub z_to : (a : List Tok) → StandBehindSign kind.TypeZ before a → StandBehindType names records number_type before a
  z_to a h = (written.z_type h.0, refl, tt, h.1)

  pub z_back : (a : List Tok) → StandBehindType names records number_type before a → StandBehindSign kind.TypeZ before a
  z_back a h = at h.0 h.1 h.3
    where
      at : (ty : TypeText) → is_written names records ty number_type ≡ true → before ≡ type_tokens ty ++ a → StandBehindSign kind.TypeZ before a
      at (written.z_type place) is spelled = (place, spelled)
      at (written.b_type place) is spelled = absurd (cc)
      at (written.unit_type place) is spelled = absurd (cc)
      at (written.sequence_type word left element right) is spelled = absurd (cc)
      at (written.record_type name) is spelled = absurd (cc)

  pub b_to : (a : List Tok) → StandBehindSign kind.TypeB before a → StandBehindType names records truth_type before a
  b_to a h = (written.b_type h.0, refl, tt, h.1)

  pub b_back : (a : List Tok) → StandBehindType names records truth_type before a → StandBehindSign kind.TypeB before a
  b_back a h = at h.0 h.1 h.3
    where
      at : (ty : TypeText) → is_written names records ty truth_type ≡ true → before ≡ type_tokens ty ++ a → StandBehindSign kind.TypeB before a
      at (written.z_type place) is spelled = absurd (cc)
      at (written.b_type place) is spelled = (place, spelled)
      at (written.unit_type place) is spelled = absurd (cc)
      at (written.sequence_type word left element right) is spelled = absurd (cc)
      at (written.record_type name) is spelled = absurd (cc)

-- the type of the elements in brackets, and behind its opening bracket
abbrev pub BehindIsz : List (List ℕ) → Records → ValueType → List Tok → List Tok → Type 0
BehindIsz names records t middle a =
    (left : Place) × (ty : TypeText) × (right : Place) × (is_written names records ty t ≡ true) × IsType ty
    × (middle ≡ sign kind.LeftBracket left ∷ type_tokens ty ++ sign kind.RightBracket right ∷ a)

abbrev pub InBrackets : List (List ℕ) → Records → ValueType → List Tok → List Tok → Type 0
InBrackets names records t inner a =
    (ty : TypeText) × (right : Place) × (is_written names records ty t ≡ true) × IsType ty × (inner ≡ type_tokens ty ++ sign kind.RightBracket right ∷ a)

module _ (names : List (List ℕ)) (records : Records) (t : ValueType) where
  pub isz_split : (before a : List Tok) → StandBehindType names records (sequence_type t) before a
      → (middle : List Tok) × StandBehindSign kind.TypeIsz before middle × BehindIsz names records t middle a
  isz_split before a h = at h.0 h.1 h.2 h.3
    where
      at : (ty : TypeText) → is_written names records ty (sequence_type t) ≡ true → IsType ty → before ≡ type_tokens ty ++ a
          → (middle : List Tok) × StandBehindSign kind.TypeIsz before middle × BehindIsz names records t middle a
      at (written.z_type place) is formed spelled = absurd (cc)
      at (written.b_type place) is formed spelled = absurd (cc)
      at (written.unit_type place) is formed spelled = absurd (cc)
      at (written.record_type name) is formed spelled = absurd (cc)
      at (written.sequence_type word left element right) is formed spelled = (
        sign kind.LeftBracket left ∷ type_tokens element ++ sign kind.RightBracket right ∷ a,
        (
          word,
          spelled ∙ ap (λ ts. sign kind.TypeIsz word ∷ sign kind.LeftBracket left ∷ ts)
              (append_assoc (type_tokens element) (sign kind.RightBracket right ∷ []) a),
        ),
        (left, element, right, is, formed, refl),
      )

  pub isz_join : (before middle a : List Tok) → StandBehindSign kind.TypeIsz before middle → BehindIsz names records t middle a
      → StandBehindType names records (sequence_type t) before a
  isz_join before middle a h k = (
    written.sequence_type h.0 k.0 k.1 k.2,
    k.3,
    k.4,
    h.1 ∙ ap (λ ts. sign kind.TypeIsz h.0 ∷ ts) k.5
        ∙ ap (λ ts. sign kind.TypeIsz h.0 ∷ sign kind.LeftBracket k.0 ∷ ts) (sym (append_assoc (type_tokens k.1) (sign kind.RightBracket k.2 ∷ []) a)),
  )

  pub left_split : (middle a : List Tok) → BehindIsz names records t middle a
      → (inner : List Tok) × StandBehindSign kind.LeftBracket middle inner × InBrackets names records t inner a
  left_split middle a k = (type_tokens k.1 ++ sign kind.RightBracket k.2 ∷ a, (k.0, k.5), (k.1, k.2, k.3, k.4, refl))

  pub left_join : (middle inner a : List Tok) → StandBehindSign kind.LeftBracket middle inner → InBrackets names records t inner a
      → BehindIsz names records t middle a
  left_join middle inner a h k = (h.0, k.0, k.1, k.2, k.3, h.1 ∙ ap (λ ts. sign kind.LeftBracket h.0 ∷ ts) k.4)

  pub inner_split : (inner a : List Tok) → InBrackets names records t inner a
      → (rest : List Tok) × StandBehindType names records t inner rest × StandBehindSign kind.RightBracket rest a
  inner_split inner a k = (sign kind.RightBracket k.1 ∷ a, (k.0, k.2, k.3, k.4), (k.1, refl))

  pub inner_join : (inner rest a : List Tok) → StandBehindType names records t inner rest → StandBehindSign kind.RightBracket rest a
      → InBrackets names records t inner a
  inner_join inner rest a h k = (h.0, k.0, h.1, h.2, h.3 ∙ ap (λ ts. type_tokens h.0 ++ ts) k.1)
