-- What stands behind a member of a list, and the fronts of records.
use Rattle.std.proofs.Common.{◌≡◌, ℕ, Bool, true, false, ◌&&◌, List, [], ◌∷◌, ◌++◌, IsTrue, refl, sym, ap, ◌∙◌, subst}
use Rattle.std.proofs.lemmas.Bool.{and_parts, and_from}
use Rattle.slang_lexer.specs.declared.token.TokenKind.TheVariants as kind
use Rattle.slang_tree.specs.declared.place.Place.{Place}
use Rattle.slang_values.specs.Value.{Records, record_type}
use Rattle.slang_tokens.specs.Tok.{Tok, sign}
use Rattle.slang_grammar.specs.Parts.{TypeText, IsType, type_tokens, is_plain}
use Rattle.slang_grammar.specs.Parts as written
use Rattle.argument_rules.specs.Values.{is_named, is_written}
use Rattle.argument_fronts.specs.Cursor.{StandBehindSign, Front, IsFrontOf}
use Rattle.argument_fronts.specs.Types.{StandBehindType}
use Rattle.argument_fronts.specs.Heads.{MarkedFront, end_kind, IsEndOfMember, IsHeadOfRecord}

pub no_end : (before : List Tok) → ((x : List Tok) → StandBehindSign kind.Comma before x → ⊥) → ((x : List Tok)
    → StandBehindSign kind.RightParen before x → ⊥)
    → (a : MarkedFront) → IsEndOfMember before a → ⊥
no_end before comma right a h = at a.mark h.0 h.1
  where
    at : (over : Bool) (place : Place) → before ≡ sign (end_kind over) place ∷ a.rest → ⊥
    at true place is = right a.rest (place, is)
    at false place is = comma a.rest (place, is)

-- ---- records

module _ (names : List (List ℕ)) (records : Records) (number : ℕ) (before : List Tok) where
  -- the name of a record in front
  named_split : (a : List Tok) → StandBehindType names records (record_type number) before a
      → (text : List ℕ) × (is_named names records number text ≡ true) × (is_plain text ≡ true) × IsFrontOf kind.Name before (record { text = text; rest = a })
  named_split a h = at h.0 h.1 h.2 h.3
    where
      at : (ty : TypeText) → is_written names records ty (record_type number) ≡ true → IsType ty → before ≡ type_tokens ty ++ a
          → (text : List ℕ) × (is_named names records number text ≡ true) × (is_plain text ≡ true) × IsFrontOf kind.Name before
          (record { text = text; rest = a })
      at (written.z_type place) is formed spelled = absurd (cc)
      at (written.b_type place) is formed spelled = absurd (cc)
      at (written.unit_type place) is formed spelled = absurd (cc)
      at (written.sequence_type word left element right) is formed spelled = absurd (cc)
      at (written.record_type name) is formed spelled = (name.text, is, formed, (name.place, spelled))

  module _ (front : Front) (found : IsFrontOf kind.Name before front × ((a : Front) → IsFrontOf kind.Name before a → a ≡ front)) where
    pub record_there : (is_plain front.text && is_named names records number front.text) ≡ true
        → StandBehindType names records (record_type number) before front.rest
        × ((a : List Tok) → StandBehindType names records (record_type number) before a → a ≡ front.rest)
    record_there holds =
        let parts = and_parts (is_plain front.text) (is_named names records number front.text) holds in (
          (written.record_type (record { text = front.text; place = found.0.0 }), parts.1, parts.0, found.0.1),
          λ a h. let s = named_split a h in ap (λ (x : Front). x.rest) (found.1 (record { text = s.0; rest = a }) s.3),
        )

    pub no_record_there : (is_plain front.text && is_named names records number front.text) ≡ false
        → (a : List Tok) → StandBehindType names records (record_type number) before a → ⊥
    no_record_there fails a h =
        let s = named_split a h in
        let same = ap (λ (x : Front). x.text) (found.1 (record { text = s.0; rest = a }) s.3) in
        no_two (and_from (is_plain front.text) (is_named names records number front.text) (subst (λ x. is_plain x ≡ true) same s.2)
        (subst (λ x. is_named names records number x ≡ true) same s.1)) fails
      where
        no_two : {b : Bool} → b ≡ true → b ≡ false → ⊥
        no_two p q = cc

    -- and the bracket behind it
    pub head_split : (a : List Tok) → IsHeadOfRecord names records number before a
        → (b : Front) × IsFrontOf kind.Name before b × StandBehindSign kind.LeftParen b.rest a
    head_split a h = (record { text = h.text; rest = sign kind.LeftParen h.left ∷ a }, (h.at, h.spelled), (h.left, refl))

    pub head_join : (is_plain front.text && is_named names records number front.text) ≡ true → (b : Front) (a : List Tok) → IsFrontOf kind.Name before b
        → StandBehindSign kind.LeftParen b.rest a → IsHeadOfRecord names records number before a
    head_join holds b a there behind =
        let parts = and_parts (is_plain front.text) (is_named names records number front.text) holds in
        let same = ap (λ (x : Front). x.text) (sym (found.1 b there)) in
        record {
          text = b.text;
          at = there.0;
          left = behind.0;
          plain = subst (λ x. is_plain x ≡ true) same parts.0;
          named = subst (λ x. is_named names records number x ≡ true) same parts.1;
          spelled = there.1 ∙ ap (λ ts. record { kind = kind.Name; text = b.text; place = there.0 } ∷ ts) behind.1;
        }

    pub no_head : (is_plain front.text && is_named names records number front.text) ≡ false → (a : List Tok)
        → IsHeadOfRecord names records number before a → ⊥
    no_head fails a h =
        let same = ap (λ (x : Front). x.text) (found.1 (record { text = h.text; rest = sign kind.LeftParen h.left ∷ a }) (h.at, h.spelled)) in
        no_two (and_from (is_plain front.text) (is_named names records number front.text) (subst (λ x. is_plain x ≡ true) same h.plain)
        (subst (λ x. is_named names records number x ≡ true) same h.named)) fails
      where
        no_two : {b : Bool} → b ≡ true → b ≡ false → ⊥
        no_two p q = cc

  pub no_record_named : ((a : Front) → IsFrontOf kind.Name before a → ⊥) → (a : List Tok) → StandBehindType names records (record_type number) before a → ⊥
  no_record_named none a h = let s = named_split a h in none (record { text = s.0; rest = a }) s.3
