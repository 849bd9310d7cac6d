-- Sequences and records, from their fronts on.
use Rattle.std.proofs.Common.{◌≡◌, ℕ, Bool, true, false, not, ◌||◌, List, [], ◌∷◌, ◌++◌, append_assoc, if◌then◌else◌, Option, Some, None}
use Rattle.std.proofs.Common.{refl, sym, ap, ◌∙◌, subst}
use Rattle.std.specs.Prelude.{is_some}
use Rattle.std.specs.Option.{option_map}
use Rattle.slang_lexer.specs.declared.token.TokenKind.TheVariants as kind
use Rattle.slang_tree.specs.declared.place.Place.{Place}
use Rattle.slang_values.specs.Value.{ValueType, sequence_type, record_type, Records, fields, sequence, record_value, Values, no_values, value_then}
use Rattle.slang_values.specs.Value as plain
use Rattle.slang_tokens.specs.Tok.{Tok, sign}
use Rattle.slang_grammar.specs.Parts.{ElementText, element_tokens, IfWritten, IsElement, optional}
use Rattle.slang_grammar.specs.Declarations.{ConstText, const_number, const_minus, const_truth, const_falsity, const_sequence, const_record}
use Rattle.slang_grammar.specs.Declarations.{ConstsText, no_consts, last_const, const_then, const_tokens, consts_tokens, HasConst, HasElements}
use Rattle.argument_rules.specs.Arguments.{IsConst}
use Rattle.argument_rules.specs.Values.{is_element, is_named, both_values, const_value, element_values, field_values}
use Rattle.argument_fronts.specs.Heads.{MarkedFront, IsHeadOfRecord}
use Rattle.argument_lists.specs.Heads.{IsHeadOf}
use Rattle.argument_lists.specs.Parts.{same, each}
use Rattle.argument_values.specs.Consts.{ValuesFront, ArePartsFront, is_empty, IsSequenceEnd, IsRecordEnd}
use Rattle.argument_scalars.specs.Fronts.{ValueFront, IsValueFront}

some_inj : {A : Type 0} {x y : A} → Some x ≡ Some y → x ≡ y
some_inj e = cc

-- a value that is made of others where a test holds
made_of : {A B : Type 0} (test : Bool) (f : A → B) (o : Option A) (b : B) → (if test then option_map f o else None) ≡ Some b
    → (a : A) × (test ≡ true) × (o ≡ Some a) × (b ≡ f a)
made_of true f None b h = absurd (cc)
made_of true f (Some a) b h = (a, refl, refl, sym (some_inj h))
made_of false f o b h = absurd (cc)

made : {A B : Type 0} (test : Bool) (f : A → B) (o : Option A) (a : A) → test ≡ true → o ≡ Some a → (if test then option_map f o else None) ≡ Some (f a)
made true f o a t h = ap (option_map f) h
made false f o a t h = absurd (cc)

both_some : (v : Option plain.Value) (vs : Option Values) (all : Values) → both_values v vs ≡ Some all → is_empty all ≡ false
both_some None vs all h = absurd (cc)
both_some (Some w) None all h = absurd (cc)
both_some (Some w) (Some ws) all h = ap is_empty (sym (some_inj h))

no_two : {A : Type 0} (b : Bool) → b ≡ true → b ≡ false → A
no_two b h k = absurd (cc)

module _ (names : List (List ℕ)) (records : Records) where
  -- ---- whether there are members

  elements_there : (consts : ConstsText) (t : ValueType) (vs : Values) → element_values names records consts t ≡ Some vs → HasConst consts → is_empty vs ≡ false
  elements_there no_consts t vs h c = absurd c
  elements_there (last_const c) t vs h k = both_some (const_value names records c t) (Some no_values) vs h
  elements_there (const_then c comma more) t vs h k = both_some (const_value names records c t) (element_values names records more t) vs h

  elements_some : (consts : ConstsText) (t : ValueType) (vs : Values) → element_values names records consts t ≡ Some vs → is_empty vs ≡ false → HasConst consts
  elements_some no_consts t vs h e = no_two (is_empty vs) (ap is_empty (sym (some_inj h))) e
  elements_some (last_const c) t vs h e = tt
  elements_some (const_then c comma more) t vs h e = tt

  fields_there : (consts : ConstsText) (ts : List ValueType) (vs : Values) → field_values names records consts ts ≡ Some vs
      → HasConst consts → is_empty vs ≡ false
  fields_there no_consts ts vs h c = absurd c
  fields_there (last_const c) [] vs h k = absurd (cc)
  fields_there (last_const c) (t ∷ []) vs h k = both_some (const_value names records c t) (Some no_values) vs h
  fields_there (last_const c) (t ∷ s ∷ ts) vs h k = absurd (cc)
  fields_there (const_then c comma more) [] vs h k = absurd (cc)
  fields_there (const_then c comma more) (t ∷ ts) vs h k = both_some (const_value names records c t) (field_values names records more ts) vs h

  fields_some : (consts : ConstsText) (ts : List ValueType) (vs : Values) → field_values names records consts ts ≡ Some vs
      → is_empty vs ≡ false → HasConst consts
  fields_some no_consts [] vs h e = no_two (is_empty vs) (ap is_empty (sym (some_inj h))) e
  fields_some no_consts (t ∷ ts) vs h e = absurd (cc)
  fields_some (last_const c) ts vs h e = tt
  fields_some (const_then c comma more) ts vs h e = tt

  has_elements : (ty : Option ElementText) (consts : ConstsText) (t : ValueType) (vs : Values) → element_values names records consts t ≡ Some vs
      → HasElements ty consts → (is_some ty || not (is_empty vs)) ≡ true
  has_elements None consts t vs h k = ap not (elements_there consts t vs h k)
  has_elements (Some ty) consts t vs h k = refl

  not_empty : (b : Bool) → not b ≡ true → b ≡ false
  not_empty true h = absurd (cc)
  not_empty false h = refl

  elements_had : (ty : Option ElementText) (consts : ConstsText) (t : ValueType) (vs : Values) → element_values names records consts t ≡ Some vs
      → (is_some ty || not (is_empty vs)) ≡ true → IfWritten IsElement ty → HasElements ty consts
  elements_had None consts t vs h k formed = elements_some consts t vs h (not_empty (is_empty vs) k)
  elements_had (Some ty) consts t vs h k formed = formed

  type_formed : (ty : Option ElementText) (consts : ConstsText) → HasElements ty consts → IfWritten IsElement ty
  type_formed None consts h = tt
  type_formed (Some ty) consts h = h

  -- ---- sequences

  module _ (t : ValueType) where
    -- behind the front of a sequence
    abbrev pub BehindHead : MarkedFront → ValueFront → Type 0
    BehindHead head front =
        (vs : ValuesFront) × ArePartsFront names records (same t) head.rest vs × IsSequenceEnd head.mark t vs.values vs.rest front

    sequence_tokens : (word : Place) (ty : Option ElementText) (left : Place) (elements : ConstsText) (right : Place) (x : List Tok)
        → const_tokens (const_sequence word ty left elements right) ++ x
        ≡ sign kind.TypeIsz word ∷ (optional element_tokens ty ++ (sign kind.LeftParen left ∷ (consts_tokens elements ++ (sign kind.RightParen right ∷ x))))
    sequence_tokens word ty left elements right x =
        ap (λ ts. sign kind.TypeIsz word ∷ ts)
        (append_assoc (optional element_tokens ty ++ (sign kind.LeftParen left ∷ consts_tokens elements)) (sign kind.RightParen right ∷ []) x
        ∙ append_assoc (optional element_tokens ty) (sign kind.LeftParen left ∷ consts_tokens elements) (sign kind.RightParen right ∷ x))

    pub sequence_split : (before : List Tok) (front : ValueFront) → IsValueFront names records (sequence_type t) before front
        → (head : MarkedFront) × IsHeadOf names records t before head × BehindHead head front
    sequence_split before front h = at h.const h.well_formed h.spelled h.has_value
      where
        at : (c : ConstText) → IsConst c → before ≡ const_tokens c ++ front.rest → const_value names records c (sequence_type t) ≡ Some front.value
            → (head : MarkedFront) × IsHeadOf names records t before head × BehindHead head front
        at (const_number digits place) formed spelled value = absurd (cc)
        at (const_minus minus digits place) formed spelled value = absurd (cc)
        at (const_truth place) formed spelled value = absurd (cc)
        at (const_falsity place) formed spelled value = absurd (cc)
        at (const_record name left parts right) formed spelled value = absurd (cc)
        at (const_sequence word ty left elements right) formed spelled value =
            let found = made_of (is_element names records ty t) (sequence t) (element_values names records elements t) front.value value in
            let rest = consts_tokens elements ++ sign kind.RightParen right ∷ front.rest in (
              record { mark = is_some ty; rest = rest },
              record {
                word = word;
                ty = ty;
                left = left;
                is_type = found.1;
                well_formed = type_formed ty elements formed.0;
                is_written = refl;
                spelled = spelled ∙ sequence_tokens word ty left elements right front.rest;
              },
              (
                record { values = found.0; rest = front.rest },
                record { consts = elements; right = right; well_formed = formed.1; spelled = refl; have_values = found.2 },
                (has_elements ty elements t found.0 found.2 formed.0, ap (λ (v : plain.Value). record { value = v; rest = front.rest }) found.3),
              ),
            )

    pub sequence_join : (before : List Tok) (head : MarkedFront) (front : ValueFront) → IsHeadOf names records t before head → BehindHead head front
        → IsValueFront names records (sequence_type t) before front
    sequence_join before head front h k =
        let vs = k.0 in
        let parts = k.1 in
        let some = subst (λ (b : Bool). (b || not (is_empty vs.values)) ≡ true) h.is_written k.2.0 in
        let rest_is : front.rest ≡ vs.rest = ap (λ (f : ValueFront). f.rest) k.2.1 in
        record {
          const = const_sequence h.word h.ty h.left parts.consts parts.right;
          well_formed = (elements_had h.ty parts.consts t vs.values parts.have_values some h.well_formed, parts.well_formed);
          spelled = h.spelled
              ∙ ap (λ ts. sign kind.TypeIsz h.word ∷ (optional element_tokens h.ty ++ (sign kind.LeftParen h.left ∷ ts))) parts.spelled
              ∙ sym (sequence_tokens h.word h.ty h.left parts.consts parts.right vs.rest)
              ∙ ap (λ ts. const_tokens (const_sequence h.word h.ty h.left parts.consts parts.right) ++ ts) (sym rest_is);
          has_value = made (is_element names records h.ty t) (sequence t) (element_values names records parts.consts t) vs.values h.is_type parts.have_values
              ∙ ap Some (sym (ap (λ (f : ValueFront). f.value) k.2.1));
        }

    pub elements_split : (head : MarkedFront) (front : ValueFront) → BehindHead head front
        → (vs : ValuesFront) × ArePartsFront names records (same t) head.rest vs × IsSequenceEnd head.mark t vs.values vs.rest front
    elements_split head front k = k

  -- ---- records

  module _ (number : ℕ) where
    abbrev pub BehindName : List Tok → ValueFront → Type 0
    BehindName rest front =
        (vs : ValuesFront) × ArePartsFront names records (each (fields records number)) rest vs × IsRecordEnd number vs.values vs.rest front

    pub record_split : (before : List Tok) (front : ValueFront) → IsValueFront names records (record_type number) before front
        → (rest : List Tok) × IsHeadOfRecord names records number before rest × BehindName rest front
    record_split before front h = at h.const h.well_formed h.spelled h.has_value
      where
        at : (c : ConstText) → IsConst c → before ≡ const_tokens c ++ front.rest → const_value names records c (record_type number) ≡ Some front.value
            → (rest : List Tok) × IsHeadOfRecord names records number before rest × BehindName rest front
        at (const_number digits place) formed spelled value = absurd (cc)
        at (const_minus minus digits place) formed spelled value = absurd (cc)
        at (const_truth place) formed spelled value = absurd (cc)
        at (const_falsity place) formed spelled value = absurd (cc)
        at (const_sequence word ty left elements right) formed spelled value = absurd (cc)
        at (const_record name left parts right) formed spelled value =
            let found = made_of (is_named names records number name.text) (record_value number)
            (field_values names records parts (fields records number)) front.value value in
            let rest = consts_tokens parts ++ sign kind.RightParen right ∷ front.rest in (
              rest,
              record {
                text = name.text;
                at = name.place;
                left = left;
                plain = formed.0;
                named = found.1;
                spelled = spelled ∙ ap (λ ts. record { kind = kind.Name; text = name.text; place = name.place } ∷ sign kind.LeftParen left ∷ ts)
                    (append_assoc (consts_tokens parts) (sign kind.RightParen right ∷ []) front.rest);
              },
              (
                record { values = found.0; rest = front.rest },
                record { consts = parts; right = right; well_formed = formed.2; spelled = refl; have_values = found.2 },
                (
                  fields_there parts (fields records number) found.0 found.2 formed.1,
                  ap (λ (v : plain.Value). record { value = v; rest = front.rest }) found.3,
                ),
              ),
            )

    pub record_join : (before rest : List Tok) (front : ValueFront) → IsHeadOfRecord names records number before rest → BehindName rest front
        → IsValueFront names records (record_type number) before front
    record_join before rest front h k =
        let vs = k.0 in
        let parts = k.1 in
        let rest_is : front.rest ≡ vs.rest = ap (λ (f : ValueFront). f.rest) k.2.1 in
        record {
          const = const_record (record { text = h.text; place = h.at }) h.left parts.consts parts.right;
          well_formed = (h.plain, fields_some parts.consts (fields records number) vs.values parts.have_values k.2.0, parts.well_formed);
          spelled = h.spelled
              ∙ ap (λ ts. record { kind = kind.Name; text = h.text; place = h.at } ∷ sign kind.LeftParen h.left ∷ ts)
              (parts.spelled ∙ sym (append_assoc (consts_tokens parts.consts) (sign kind.RightParen parts.right ∷ []) vs.rest)
              ∙ ap (λ ts. (consts_tokens parts.consts ++ sign kind.RightParen parts.right ∷ []) ++ ts) (sym rest_is));
          has_value = made (is_named names records number h.text) (record_value number)
              (field_values names records parts.consts (fields records number)) vs.values h.named
              parts.have_values ∙ ap Some (sym (ap (λ (f : ValueFront). f.value) k.2.1));
        }
