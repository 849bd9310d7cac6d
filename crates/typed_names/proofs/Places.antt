-- The place of a field among those of a record.
use Rattle.std.proofs.Common.{◌≡◌, ℕ, zero, suc, ◌+◌, ◌<◌, ◌≤◌, Bool, true, false, cond, not, Option, Some, None, List, [], ◌∷◌, map, length, drop, get_or, refl, sym, ap, ◌∙◌, arith}
use Rattle.std.proofs.Math.Seq.{drop-cons, drop-length}
use Rattle.std.specs.List.{position_or_len}
use Rattle.std.specs.Str.{bytes_eq}
use Rattle.slang_values.specs.Value.{record_type}
use Rattle.lk_programs.specs.declared.program.FieldTy.{FieldTy}
use Rattle.lk_programs.specs.declared.program.RecordTy.{RecordTy}
use Rattle.type_rules.specs.Meanings.{Field, Scope}
use Rattle.typed_texts.specs.Claims.{field_place}
use Rattle.typed_names.specs.Fields.{HasFields, fields_in, names_of, place_in}

-- the place of a name among others
abbrev name_place : List (List ℕ) → List ℕ → ℕ
name_place names text = position_or_len (λ name. bytes_eq name text) names

among_fields : (fields : List FieldTy) (text : List ℕ) → position_or_len (λ (f : FieldTy). bytes_eq f.name text) fields ≡ name_place (names_of fields) text
among_fields [] text = refl
among_fields (f ∷ fields) text = ap (λ n. cond (not (bytes_eq f.name text)) (1 + n) 0) (among_fields fields text)

abbrev texts_of : List Field → List (List ℕ)
texts_of fields = map (λ (f : Field). f.text) fields

among_texts : (fields : List Field) (text : List ℕ) → position_or_len (λ (f : Field). bytes_eq f.text text) fields ≡ name_place (texts_of fields) text
among_texts [] text = refl
among_texts (f ∷ fields) text = ap (λ n. cond (not (bytes_eq f.text text)) (1 + n) 0) (among_texts fields text)

names_at : (records : List RecordTy) (number : ℕ) →
    names_of (get_or (map fields_in records) number []) ≡ get_or (map (λ (named : RecordTy). names_of named.fields) records) number []
names_at [] number = refl
names_at (r ∷ records) zero = refl
names_at (r ∷ records) (suc number) = names_at records number

texts_at : (fields : List (List Field)) (number : ℕ) → texts_of (get_or fields number []) ≡ get_or (map texts_of fields) number []
texts_at [] number = refl
texts_at (f ∷ fields) zero = refl
texts_at (f ∷ fields) (suc number) = texts_at fields number

-- The records and the scope agree on the place.
pub place_agrees : (records : List RecordTy) (scope : Scope) (number : ℕ) (text : List ℕ) → HasFields records scope →
    place_in records number text ≡ field_place scope number text
place_agrees records scope number text same =
    among_fields (get_or (map fields_in records) number []) text
    ∙ ap (λ names. name_place names text) (names_at records number ∙ ap (λ all. get_or all number []) same ∙ sym (texts_at scope.fields number))
    ∙ sym (among_texts (get_or scope.fields number []) text)

-- ---- the place, looked for from the front

abbrev pub is_of_name : List ℕ → FieldTy → Bool
is_of_name text field = bytes_eq field.name text

module _ (fields : List FieldTy) (text : List ℕ) (i : ℕ) where
  -- none of the first ones is of the name
  abbrev pub IsLater : Type 0
  IsLater = position_or_len (is_of_name text) fields ≡ i + position_or_len (is_of_name text) (drop i fields)

  from_here : (field : FieldTy) → i < length fields → field ≡ get_or fields i field →
      position_or_len (is_of_name text) (drop i fields) ≡ cond (not (bytes_eq field.name text)) (1 + position_or_len (is_of_name text) (drop (suc i) fields)) 0
  from_here field within is =
      ap (position_or_len (is_of_name text)) (drop-cons fields i field within)
      ∙ ap (λ (f : FieldTy). position_or_len (is_of_name text) (f ∷ drop (suc i) fields)) (sym is)

  pub place_here : (field : FieldTy) → i < length fields → field ≡ get_or fields i field → bytes_eq field.name text ≡ true → IsLater →
      i ≡ position_or_len (is_of_name text) fields
  place_here field within is same later =
      let rest = position_or_len (is_of_name text) (drop (suc i) fields) in
      sym (later ∙ ap (λ n. i + n) (from_here field within is ∙ ap (λ b. cond (not b) (1 + rest) 0) same) ∙ omega arith)

  pub place_end : length fields ≡ i → IsLater → i ≡ position_or_len (is_of_name text) fields
  place_end ends later =
      sym (later ∙ ap (λ n. i + position_or_len (is_of_name text) (drop n fields)) (sym ends) ∙ ap (λ fs. i + position_or_len (is_of_name text) fs) (drop-length fields)
      ∙ omega arith)

pub place_next : (fields : List FieldTy) (text : List ℕ) (i : ℕ) (field : FieldTy) → i < length fields → field ≡ get_or fields i field →
    bytes_eq field.name text ≡ false → IsLater fields text i → IsLater fields text (i + 1)
place_next fields text i field within is other later =
    let rest = position_or_len (is_of_name text) (drop (suc i) fields) in
    let next : suc i ≡ i + 1 = omega arith in
    let on : i + (1 + rest) ≡ i + 1 + rest = omega arith in
    later ∙ ap (λ n. i + n) (from_here fields text i field within is ∙ ap (λ b. cond (not b) (1 + rest) 0) other)
    ∙ on ∙ ap (λ n. i + 1 + position_or_len (is_of_name text) (drop n fields)) next
